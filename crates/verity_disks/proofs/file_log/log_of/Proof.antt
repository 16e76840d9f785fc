-- `log_of` makes a value of no bytes, of any device.
use Rattle.verity_disks.specs.Tearing.{Kept}
use mathlib.Core.Path.{refl}
use mathlib.Core.List.{[], ◌∷◌}
use mir.Val.{Val, vstruct, vnil}
use types.Kit.{raw, ◌$◌, ◌∵◌, !, qed, keep, join, suffices, done}
use types.Run.{no_more, returns, enter}
use types.Part.{agg}
use types.ByLocal.{alloc_all, pass_all, free_all, look_at, sets}
use denote.Shadow.{pure_i}
use denote.Steps.{nothing}
use denote.Triple.Entry.{on_entry}
use denote.Triple.Walked.{says, ends_at}
use Rattle.std.proofs.raw_atomic.Walks.{proved}
use Rattle.verity_disks.specs.declared.file_log.FileLog.{FileLog}
use Rattle.verity_disks.specs.contracts.file_log.FileLog as T
use Rattle.verity_disks.specs.contracts.file_log.log_of as f
use Rattle.verity_disks.proofs.file_log.log_of.Statement.{statement}
use Rattle.verity_disks.proofs.file_log.log_of.Code as code

abbrev v : Val
v = vstruct vnil

abbrev made : Kept → FileLog
made n = record { kept = n }

pub log_of_spec : {M : Type 1} → statement M
log_of_spec 𝓤 𝓛 𝓜 𝓡 wired =
    let c = f.clauses 𝓛 𝓜.mem 𝓡.returns in
    proved 𝓛 f.ended tt c 𝓜 𝓡 tt f.Key.name code.function (code.unfolded 𝓤 𝓛.H 𝓜 𝓡 wired) (λ κs. tt) (λ κs. tt) (λ κs qs bounds a g _.
    qed 𝓛 (raw (on_entry 𝓛 f.signature κs qs a tt) ∷ raw ((c κs a).requires g) ∷ []) ∵ keep ! [] $
    enter ! _ _ _ _ _ $ alloc_all ! (λ l. pass_all ! refl tt $
    sets ! (agg ! (no_more !)) refl (tt, tt) $
    returns ! (look_at ! 0 refl) $ free_all ! refl $
    pure_i ! ((T.the_row).own_val (made g) (v ∷ [])) ((λ vss. (tt, tt)), tt) ((tt, (refl, tt)), tt) $
    suffices ! _ (ends_at 𝓛 f.ended tt c ((κs, qs, bounds, a, tt), g) v (made g) tt tt) $ says ! refl $
    nothing ! $ join ! $ nothing ! $ done !))
