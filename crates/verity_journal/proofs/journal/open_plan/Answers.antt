use Rattle.std.proofs.Common.{◌≡◌, length, ap, ◌∙◌, subst, arith}
use Rattle.verity_disks.specs.declared.disks.Device.TheVariants.{Journal}
use Rattle.verity_disks.specs.Disks.{Contents, Torn, Reached}
use Rattle.verity_journal.specs.Journal.{pair_of, IsGated, IsOldOrNew}
use Rattle.verity_disks.proofs.Moments.{started, joined, durable_after, reached_self, torn_self}
use Rattle.verity_journal.proofs.Gates.{staged, gate_written, behind_is_old, gate_is_one}
use Rattle.verity_journal.proofs.journal.open_plan.Goals as goal

pub returns-in_err-write_synced-clause-any_moment : goal.returns-in_err-write_synced-clause-any_moment
returns-in_err-write_synced-clause-any_moment g c =
    let plan = c.args.plan.now in
    let old = c.args.disks.now in
    let mid = c.write_synced.new.disks in
    let base = pair_of (g.K.Disks.seen old) in
    let P = IsOldOrNew plan base in
    let behind : (f : Contents) → Reached Journal (Torn 13 (length c.args.bytes.now)) (g.K.Disks.may_leave old) f → P f =
    λ f r. behind_is_old plan (g.K.Disks.seen old) (g.K.Disks.may_leave old) (length c.args.bytes.now) c.requires.settled f r in
    let at_start = started g.K.Disks.moment g.K.Disks.left_since old P
    (λ f left. behind f (reached_self Journal (Torn 13 (length c.args.bytes.now)) (g.K.Disks.may_leave old) f (torn_self _ _ _)
    (g.met.K.Disks.only_now old f left))) in
    let first = joined g.K.Disks.moment g.K.Disks.left_since old old mid P _ at_start c.write_synced.ensures.any_moment behind in
    first

pub returns-clause-any_moment : goal.returns-clause-any_moment
returns-clause-any_moment g c =
    let plan = c.args.plan.now in
    let old = c.args.disks.now in
    let mid = c.write_synced.new.disks in
    let base = pair_of (g.K.Disks.seen old) in
    let P = IsOldOrNew plan base in
    let behind : (f : Contents) → Reached Journal (Torn 13 (length c.args.bytes.now)) (g.K.Disks.may_leave old) f → P f =
    λ f r. behind_is_old plan (g.K.Disks.seen old) (g.K.Disks.may_leave old) (length c.args.bytes.now) c.requires.settled f r in
    let at_start = started g.K.Disks.moment g.K.Disks.left_since old P
    (λ f left. behind f (reached_self Journal (Torn 13 (length c.args.bytes.now)) (g.K.Disks.may_leave old) f (torn_self _ _ _)
    (g.met.K.Disks.only_now old f left))) in
    let first = joined g.K.Disks.moment g.K.Disks.left_since old old mid P _ at_start c.write_synced.ensures.any_moment behind in
    let seen = c.in_ok-write_synced.ensures.written in
    let durable = durable_after Journal (Torn 13 (length c.args.bytes.now)) _ _ _ _ _ c.requires.settled.durable seen
    c.write_synced.ensures.crash c.in_ok-write_synced.ensures.durable in
    let same : pair_of (g.K.Disks.seen mid) ≡ base = ap pair_of seen in
    let at_rest = staged plan c.args.bytes.now (g.K.Disks.seen old Journal) c.requires.suits.on_data c.requires.suits.on_hash
    c.requires.data_small c.requires.hash_small c.requires.names_small c.requires.spelled c.requires.settled.closed in
    let gated : IsGated plan (g.K.Disks.seen mid Journal) =
    (at_rest.0, at_rest.1, ap (λ (f : Contents). f Journal) seen ∙ at_rest.2, at_rest.3) in
    let gate : (f : Contents) → Reached Journal (Torn 12 1) (g.K.Disks.may_leave mid) f → P f =
    λ f r. subst (λ p. IsOldOrNew plan p f) same (gate_is_one plan (g.K.Disks.seen mid) (g.K.Disks.may_leave mid) durable gated f r) in
    joined g.K.Disks.moment g.K.Disks.left_since old mid c.write_synced-2.new.disks P _ first c.write_synced-2.ensures.any_moment gate

pub returns-in_err-write_synced-2-clause-any_moment : goal.returns-in_err-write_synced-2-clause-any_moment
returns-in_err-write_synced-2-clause-any_moment g c =
    let plan = c.args.plan.now in
    let old = c.args.disks.now in
    let mid = c.write_synced.new.disks in
    let base = pair_of (g.K.Disks.seen old) in
    let P = IsOldOrNew plan base in
    let behind : (f : Contents) → Reached Journal (Torn 13 (length c.args.bytes.now)) (g.K.Disks.may_leave old) f → P f =
    λ f r. behind_is_old plan (g.K.Disks.seen old) (g.K.Disks.may_leave old) (length c.args.bytes.now) c.requires.settled f r in
    let at_start = started g.K.Disks.moment g.K.Disks.left_since old P
    (λ f left. behind f (reached_self Journal (Torn 13 (length c.args.bytes.now)) (g.K.Disks.may_leave old) f (torn_self _ _ _)
    (g.met.K.Disks.only_now old f left))) in
    let first = joined g.K.Disks.moment g.K.Disks.left_since old old mid P _ at_start c.write_synced.ensures.any_moment behind in
    let seen = c.in_ok-write_synced.ensures.written in
    let durable = durable_after Journal (Torn 13 (length c.args.bytes.now)) _ _ _ _ _ c.requires.settled.durable seen
    c.write_synced.ensures.crash c.in_ok-write_synced.ensures.durable in
    let same : pair_of (g.K.Disks.seen mid) ≡ base = ap pair_of seen in
    let at_rest = staged plan c.args.bytes.now (g.K.Disks.seen old Journal) c.requires.suits.on_data c.requires.suits.on_hash
    c.requires.data_small c.requires.hash_small c.requires.names_small c.requires.spelled c.requires.settled.closed in
    let gated : IsGated plan (g.K.Disks.seen mid Journal) =
    (at_rest.0, at_rest.1, ap (λ (f : Contents). f Journal) seen ∙ at_rest.2, at_rest.3) in
    let gate : (f : Contents) → Reached Journal (Torn 12 1) (g.K.Disks.may_leave mid) f → P f =
    λ f r. subst (λ p. IsOldOrNew plan p f) same (gate_is_one plan (g.K.Disks.seen mid) (g.K.Disks.may_leave mid) durable gated f r) in
    joined g.K.Disks.moment g.K.Disks.left_since old mid c.write_synced-2.new.disks P _ first c.write_synced-2.ensures.any_moment gate

pub returns-clause-ready : goal.returns-clause-ready
returns-clause-ready g c =
    let plan = c.args.plan.now in
    let old = c.args.disks.now in
    let mid = c.write_synced.new.disks in
    let base = pair_of (g.K.Disks.seen old) in
    let P = IsOldOrNew plan base in
    let behind : (f : Contents) → Reached Journal (Torn 13 (length c.args.bytes.now)) (g.K.Disks.may_leave old) f → P f =
    λ f r. behind_is_old plan (g.K.Disks.seen old) (g.K.Disks.may_leave old) (length c.args.bytes.now) c.requires.settled f r in
    let at_start = started g.K.Disks.moment g.K.Disks.left_since old P
    (λ f left. behind f (reached_self Journal (Torn 13 (length c.args.bytes.now)) (g.K.Disks.may_leave old) f (torn_self _ _ _)
    (g.met.K.Disks.only_now old f left))) in
    let first = joined g.K.Disks.moment g.K.Disks.left_since old old mid P _ at_start c.write_synced.ensures.any_moment behind in
    let seen = c.in_ok-write_synced.ensures.written in
    let durable = durable_after Journal (Torn 13 (length c.args.bytes.now)) _ _ _ _ _ c.requires.settled.durable seen
    c.write_synced.ensures.crash c.in_ok-write_synced.ensures.durable in
    let same : pair_of (g.K.Disks.seen mid) ≡ base = ap pair_of seen in
    let at_rest = staged plan c.args.bytes.now (g.K.Disks.seen old Journal) c.requires.suits.on_data c.requires.suits.on_hash
    c.requires.data_small c.requires.hash_small c.requires.names_small c.requires.spelled c.requires.settled.closed in
    let gated : IsGated plan (g.K.Disks.seen mid Journal) =
    (at_rest.0, at_rest.1, ap (λ (f : Contents). f Journal) seen ∙ at_rest.2, at_rest.3) in
    let written = gate_written plan 1 (g.K.Disks.seen mid Journal) gated in
    record {
      durable = durable_after Journal (Torn 12 1) _ _ _ _ _ durable c.in_ok-write_synced-2.ensures.written
          c.write_synced-2.ensures.crash c.in_ok-write_synced-2.ensures.durable;
      opened = (1, written.0, ap (λ (f : Contents). f Journal) c.in_ok-write_synced-2.ensures.written ∙ written.1, written.2, omega arith);
    }
