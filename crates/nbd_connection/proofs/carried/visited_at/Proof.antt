-- `visited_at` makes a value of no bytes, with any visits.
use mathlib.Core.Path.{refl}
use mathlib.Core.List.{[], ◌∷◌}
use mir.Val.{Val, vstruct, vnil}
use types.Kit.{raw, ◌$◌, ◌∵◌, !, qed, keep, join, suffices, done}
use types.Run.{no_more, returns, enter}
use types.Part.{agg}
use types.ByLocal.{alloc_all, pass_all, free_all, look_at, sets}
use denote.Shadow.{pure_i}
use denote.Steps.{nothing}
use denote.Triple.Entry.{on_entry}
use denote.Triple.Walked.{says, ends_at}
use Rattle.std.proofs.raw_atomic.Walks.{proved}
use Rattle.nbd_connection.specs.Connections.{Visits}
use Rattle.nbd_connection.specs.declared.carried.Visited.{Visited}
use Rattle.nbd_connection.specs.contracts.carried.Visited as T
use Rattle.nbd_connection.specs.contracts.carried.visited_at as f
use Rattle.nbd_connection.proofs.carried.visited_at.Statement.{statement}
use Rattle.nbd_connection.proofs.carried.visited_at.Code as code

abbrev v : Val
v = vstruct vnil

abbrev made : Visits → Visited
made n = record { visits = n }

pub visited_at_spec : {M : Type 1} → statement M
visited_at_spec 𝓤 𝓛 𝓜 𝓡 wired =
    let c = f.clauses 𝓛 𝓜.mem 𝓡.returns in
    proved 𝓛 f.ended tt c 𝓜 𝓡 tt f.Key.name code.function (code.unfolded 𝓤 𝓛.H 𝓜 𝓡 wired) (λ κs. tt) (λ κs. tt) (λ κs qs bounds a g _.
    qed 𝓛 (raw (on_entry 𝓛 f.signature κs qs a tt) ∷ raw ((c κs a).requires g) ∷ []) ∵ keep ! [] $
    enter ! _ _ _ _ _ $ alloc_all ! (λ l. pass_all ! refl tt $
    sets ! (agg ! (no_more !)) refl (tt, tt) $
    returns ! (look_at ! 0 refl) $ free_all ! refl $
    pure_i ! ((T.the_row).own_val (made g) (v ∷ [])) ((λ vss. (tt, tt)), tt) ((tt, (refl, tt)), tt) $
    suffices ! _ (ends_at 𝓛 f.ended tt c ((κs, qs, bounds, a, tt), g) v (made g) tt tt) $ says ! refl $
    nothing ! $ join ! $ nothing ! $ done !))
