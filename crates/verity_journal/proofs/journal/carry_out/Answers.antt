use Rattle.std.proofs.Common.{◌≡◌, ap, ◌∙◌, subst}
use Rattle.verity_disks.specs.declared.disks.Device.TheVariants.{Data, Hash, Journal}
use Rattle.verity_disks.specs.Disks.{Contents, put, Torn, Reached}
use Rattle.verity_journal.specs.Plan.{Side, Amid, made}
use Rattle.verity_journal.specs.Journal.{pair_of, IsNew}
use Rattle.verity_journal.proofs.Made.{amid_self}
use Rattle.verity_disks.proofs.Moments.{started, joined, durable_after, reached_self}
use Rattle.verity_journal.proofs.Gates.{gate_written, data_is_new, hash_is_new, still_gated, close_is_new}
use Rattle.verity_journal.proofs.journal.carry_out.Goals as goal

pub returns-in_err-make-clause-any_moment : goal.returns-in_err-make-clause-any_moment
returns-in_err-make-clause-any_moment g c =
    let plan = c.args.plan.now in
    let old = c.args.disks.now in
    let mid = c.make.new.disks in
    let seen = g.K.Disks.seen old in
    let P = IsNew plan (pair_of seen) in
    let making : (f : Contents) → Reached Data (Amid c.data.result.now) (g.K.Disks.may_leave old) f → P f =
    λ f r. data_is_new plan seen (g.K.Disks.may_leave old) c.requires.ready c.requires.suits f
    (subst (λ (s : Side). Reached Data (Amid s) (g.K.Disks.may_leave old) f) c.data.ensures r) in
    let at_start = started g.K.Disks.moment g.K.Disks.left_since old P
    (λ f left. making f (reached_self Data (Amid c.data.result.now) (g.K.Disks.may_leave old) f (amid_self _ _)
    (g.met.K.Disks.only_now old f left))) in
    let first = joined g.K.Disks.moment g.K.Disks.left_since old old mid P _ at_start c.make.ensures.any_moment making in
    first

pub returns-in_err-make-2-clause-any_moment : goal.returns-in_err-make-2-clause-any_moment
returns-in_err-make-2-clause-any_moment g c =
    let plan = c.args.plan.now in
    let old = c.args.disks.now in
    let mid = c.make.new.disks in
    let seen = g.K.Disks.seen old in
    let P = IsNew plan (pair_of seen) in
    let making : (f : Contents) → Reached Data (Amid c.data.result.now) (g.K.Disks.may_leave old) f → P f =
    λ f r. data_is_new plan seen (g.K.Disks.may_leave old) c.requires.ready c.requires.suits f
    (subst (λ (s : Side). Reached Data (Amid s) (g.K.Disks.may_leave old) f) c.data.ensures r) in
    let at_start = started g.K.Disks.moment g.K.Disks.left_since old P
    (λ f left. making f (reached_self Data (Amid c.data.result.now) (g.K.Disks.may_leave old) f (amid_self _ _)
    (g.met.K.Disks.only_now old f left))) in
    let first = joined g.K.Disks.moment g.K.Disks.left_since old old mid P _ at_start c.make.ensures.any_moment making in
    let data_made : g.K.Disks.seen mid ≡ put Data (made plan.on_data (seen Data)) seen = c.in_ok-make.ensures.made
    ∙ ap (λ (s : Side). put Data (made s (seen Data)) seen) c.data.ensures in
    let durable = durable_after Data (Amid c.data.result.now) _ _ _ _ _ c.requires.ready.durable c.in_ok-make.ensures.made
    c.make.ensures.crash c.in_ok-make.ensures.durable in
    let hashing : (f : Contents) → Reached Hash (Amid c.hash.result.now) (g.K.Disks.may_leave mid) f → P f =
    λ f r. hash_is_new plan seen (g.K.Disks.seen mid) (g.K.Disks.may_leave mid) c.requires.suits c.requires.ready.opened durable
    data_made f (subst (λ (s : Side). Reached Hash (Amid s) (g.K.Disks.may_leave mid) f) c.hash.ensures r) in
    let second = joined g.K.Disks.moment g.K.Disks.left_since old mid c.make-2.new.disks P _ first c.make-2.ensures.any_moment hashing in
    second

pub returns-clause-any_moment : goal.returns-clause-any_moment
returns-clause-any_moment g c =
    let plan = c.args.plan.now in
    let old = c.args.disks.now in
    let mid = c.make.new.disks in
    let seen = g.K.Disks.seen old in
    let P = IsNew plan (pair_of seen) in
    let making : (f : Contents) → Reached Data (Amid c.data.result.now) (g.K.Disks.may_leave old) f → P f =
    λ f r. data_is_new plan seen (g.K.Disks.may_leave old) c.requires.ready c.requires.suits f
    (subst (λ (s : Side). Reached Data (Amid s) (g.K.Disks.may_leave old) f) c.data.ensures r) in
    let at_start = started g.K.Disks.moment g.K.Disks.left_since old P
    (λ f left. making f (reached_self Data (Amid c.data.result.now) (g.K.Disks.may_leave old) f (amid_self _ _)
    (g.met.K.Disks.only_now old f left))) in
    let first = joined g.K.Disks.moment g.K.Disks.left_since old old mid P _ at_start c.make.ensures.any_moment making in
    let data_made : g.K.Disks.seen mid ≡ put Data (made plan.on_data (seen Data)) seen = c.in_ok-make.ensures.made
    ∙ ap (λ (s : Side). put Data (made s (seen Data)) seen) c.data.ensures in
    let durable = durable_after Data (Amid c.data.result.now) _ _ _ _ _ c.requires.ready.durable c.in_ok-make.ensures.made
    c.make.ensures.crash c.in_ok-make.ensures.durable in
    let hashing : (f : Contents) → Reached Hash (Amid c.hash.result.now) (g.K.Disks.may_leave mid) f → P f =
    λ f r. hash_is_new plan seen (g.K.Disks.seen mid) (g.K.Disks.may_leave mid) c.requires.suits c.requires.ready.opened durable
    data_made f (subst (λ (s : Side). Reached Hash (Amid s) (g.K.Disks.may_leave mid) f) c.hash.ensures r) in
    let second = joined g.K.Disks.moment g.K.Disks.left_since old mid c.make-2.new.disks P _ first c.make-2.ensures.any_moment hashing in
    let last = c.make-2.new.disks in
    let hash_made : g.K.Disks.seen last ≡ put Hash (made plan.on_hash (g.K.Disks.seen mid Hash)) (g.K.Disks.seen mid) =
    c.in_ok-make-2.ensures.made ∙ ap (λ (s : Side). put Hash (made s (g.K.Disks.seen mid Hash)) (g.K.Disks.seen mid)) c.hash.ensures in
    let both = durable_after Hash (Amid c.hash.result.now) _ _ _ _ _ durable c.in_ok-make-2.ensures.made c.make-2.ensures.crash
    c.in_ok-make-2.ensures.durable in
    let closing : (f : Contents) → Reached Journal (Torn 12 1) (g.K.Disks.may_leave last) f → P f =
    λ f r. close_is_new plan seen (g.K.Disks.seen mid) (g.K.Disks.seen last) (g.K.Disks.may_leave last) c.requires.suits
    c.requires.ready.opened both data_made hash_made f r in
    joined g.K.Disks.moment g.K.Disks.left_since old last c.write_synced.new.disks P _ second c.write_synced.ensures.any_moment closing

pub returns-clause-settled : goal.returns-clause-settled
returns-clause-settled g c =
    let plan = c.args.plan.now in
    let old = c.args.disks.now in
    let mid = c.make.new.disks in
    let seen = g.K.Disks.seen old in
    let P = IsNew plan (pair_of seen) in
    let making : (f : Contents) → Reached Data (Amid c.data.result.now) (g.K.Disks.may_leave old) f → P f =
    λ f r. data_is_new plan seen (g.K.Disks.may_leave old) c.requires.ready c.requires.suits f
    (subst (λ (s : Side). Reached Data (Amid s) (g.K.Disks.may_leave old) f) c.data.ensures r) in
    let at_start = started g.K.Disks.moment g.K.Disks.left_since old P
    (λ f left. making f (reached_self Data (Amid c.data.result.now) (g.K.Disks.may_leave old) f (amid_self _ _)
    (g.met.K.Disks.only_now old f left))) in
    let first = joined g.K.Disks.moment g.K.Disks.left_since old old mid P _ at_start c.make.ensures.any_moment making in
    let data_made : g.K.Disks.seen mid ≡ put Data (made plan.on_data (seen Data)) seen = c.in_ok-make.ensures.made
    ∙ ap (λ (s : Side). put Data (made s (seen Data)) seen) c.data.ensures in
    let durable = durable_after Data (Amid c.data.result.now) _ _ _ _ _ c.requires.ready.durable c.in_ok-make.ensures.made
    c.make.ensures.crash c.in_ok-make.ensures.durable in
    let hashing : (f : Contents) → Reached Hash (Amid c.hash.result.now) (g.K.Disks.may_leave mid) f → P f =
    λ f r. hash_is_new plan seen (g.K.Disks.seen mid) (g.K.Disks.may_leave mid) c.requires.suits c.requires.ready.opened durable
    data_made f (subst (λ (s : Side). Reached Hash (Amid s) (g.K.Disks.may_leave mid) f) c.hash.ensures r) in
    let second = joined g.K.Disks.moment g.K.Disks.left_since old mid c.make-2.new.disks P _ first c.make-2.ensures.any_moment hashing in
    let last = c.make-2.new.disks in
    let hash_made : g.K.Disks.seen last ≡ put Hash (made plan.on_hash (g.K.Disks.seen mid Hash)) (g.K.Disks.seen mid) =
    c.in_ok-make-2.ensures.made ∙ ap (λ (s : Side). put Hash (made s (g.K.Disks.seen mid Hash)) (g.K.Disks.seen mid)) c.hash.ensures in
    let both = durable_after Hash (Amid c.hash.result.now) _ _ _ _ _ durable c.in_ok-make-2.ensures.made c.make-2.ensures.crash
    c.in_ok-make-2.ensures.durable in
    let closing : (f : Contents) → Reached Journal (Torn 12 1) (g.K.Disks.may_leave last) f → P f =
    λ f r. close_is_new plan seen (g.K.Disks.seen mid) (g.K.Disks.seen last) (g.K.Disks.may_leave last) c.requires.suits
    c.requires.ready.opened both data_made hash_made f r in
    let gated = still_gated plan seen (g.K.Disks.seen mid) (g.K.Disks.seen last) (g.K.Disks.may_leave last) c.requires.suits
    c.requires.ready.opened both data_made hash_made in
    let shut = gate_written plan 0 (g.K.Disks.seen last Journal) gated in
    record {
      durable = durable_after Journal (Torn 12 1) _ _ _ _ _ both c.in_ok-write_synced.ensures.written c.write_synced.ensures.crash
          c.in_ok-write_synced.ensures.durable;
      closed = (shut.0, ap (λ (f : Contents). f Journal) c.in_ok-write_synced.ensures.written ∙ shut.1);
    }

pub returns-in_err-write_synced-clause-any_moment : goal.returns-in_err-write_synced-clause-any_moment
returns-in_err-write_synced-clause-any_moment g c =
    let plan = c.args.plan.now in
    let old = c.args.disks.now in
    let mid = c.make.new.disks in
    let seen = g.K.Disks.seen old in
    let P = IsNew plan (pair_of seen) in
    let making : (f : Contents) → Reached Data (Amid c.data.result.now) (g.K.Disks.may_leave old) f → P f =
    λ f r. data_is_new plan seen (g.K.Disks.may_leave old) c.requires.ready c.requires.suits f
    (subst (λ (s : Side). Reached Data (Amid s) (g.K.Disks.may_leave old) f) c.data.ensures r) in
    let at_start = started g.K.Disks.moment g.K.Disks.left_since old P
    (λ f left. making f (reached_self Data (Amid c.data.result.now) (g.K.Disks.may_leave old) f (amid_self _ _)
    (g.met.K.Disks.only_now old f left))) in
    let first = joined g.K.Disks.moment g.K.Disks.left_since old old mid P _ at_start c.make.ensures.any_moment making in
    let data_made : g.K.Disks.seen mid ≡ put Data (made plan.on_data (seen Data)) seen = c.in_ok-make.ensures.made
    ∙ ap (λ (s : Side). put Data (made s (seen Data)) seen) c.data.ensures in
    let durable = durable_after Data (Amid c.data.result.now) _ _ _ _ _ c.requires.ready.durable c.in_ok-make.ensures.made
    c.make.ensures.crash c.in_ok-make.ensures.durable in
    let hashing : (f : Contents) → Reached Hash (Amid c.hash.result.now) (g.K.Disks.may_leave mid) f → P f =
    λ f r. hash_is_new plan seen (g.K.Disks.seen mid) (g.K.Disks.may_leave mid) c.requires.suits c.requires.ready.opened durable
    data_made f (subst (λ (s : Side). Reached Hash (Amid s) (g.K.Disks.may_leave mid) f) c.hash.ensures r) in
    let second = joined g.K.Disks.moment g.K.Disks.left_since old mid c.make-2.new.disks P _ first c.make-2.ensures.any_moment hashing in
    let last = c.make-2.new.disks in
    let hash_made : g.K.Disks.seen last ≡ put Hash (made plan.on_hash (g.K.Disks.seen mid Hash)) (g.K.Disks.seen mid) =
    c.in_ok-make-2.ensures.made ∙ ap (λ (s : Side). put Hash (made s (g.K.Disks.seen mid Hash)) (g.K.Disks.seen mid)) c.hash.ensures in
    let both = durable_after Hash (Amid c.hash.result.now) _ _ _ _ _ durable c.in_ok-make-2.ensures.made c.make-2.ensures.crash
    c.in_ok-make-2.ensures.durable in
    let closing : (f : Contents) → Reached Journal (Torn 12 1) (g.K.Disks.may_leave last) f → P f =
    λ f r. close_is_new plan seen (g.K.Disks.seen mid) (g.K.Disks.seen last) (g.K.Disks.may_leave last) c.requires.suits
    c.requires.ready.opened both data_made hash_made f r in
    joined g.K.Disks.moment g.K.Disks.left_since old last c.write_synced.new.disks P _ second c.write_synced.ensures.any_moment closing
