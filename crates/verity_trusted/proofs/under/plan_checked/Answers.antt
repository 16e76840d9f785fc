use Rattle.std.proofs.Common.{ℕ, length, inr, Err, sym, ap, ◌∙◌, subst}
use Rattle.verity_chain.specs.Checked.{bound_to}
use Rattle.verity_trusted.specs.declared.under.PlanRefused.{PlanRefused}
use Rattle.verity_plan.specs.declared.planning.CommitPlan.{CommitPlan}
use Rattle.verity_plan.specs.Faults.{PlansOrFails}
use Rattle.verity_plan.specs.Planning.{GivesTouched}
use Rattle.verity_trusted.specs.Under.{ExplainsUnplanned, refusal_of}
use Rattle.verity_trusted.proofs.UnderLemmas.{read_then, checks_then, checks_each_then, explains_then, right_under, told_under}
use Rattle.verity_trusted.proofs.PathLemmas.{reads_paths, reads_most}
use Rattle.verity_trusted.proofs.under.plan_checked.Goals as goal

pub returns-in-Ok-clause-right : goal.returns-in-Ok-clause-right
returns-in-Ok-clause-right g c =
    let old = c.args.checked.now in
    let new = c.plan_commit-planned.new.hash_store in
    right_under g.H.BlockStore old.table old.hash_store new c.table-facts.ensures.facts
    (c.in-Ok.ensures.read_only.later.fixed ∙ ap (λ s. bound_to old.table s.origin) c.requires.unread) c.args.superblock.now
    c.args.pending.now c.args.first c.args.root c.in-Ok.plan c.requires.allowed c.requires.line (sym c.requires.committed)
    (λ blocks only. c.in-Ok.ensures.right blocks (inr only))

pub returns-in-Ok-clause-told : goal.returns-in-Ok-clause-told
returns-in-Ok-clause-told g c =
    let old = c.args.checked.now in
    let new = c.plan_commit-planned.new.hash_store in
    told_under g.H.BlockStore old.table old.hash_store new c.table-facts.ensures.facts
    (c.in-Ok.ensures.read_only.later.fixed ∙ ap (λ s. bound_to old.table s.origin) c.requires.unread) c.args.superblock.now
    c.args.pending.now c.args.first c.args.root c.in-Ok.plan c.requires.allowed c.requires.line (sym c.requires.committed)
    (λ blocks only. c.in-Ok.ensures.right blocks (inr only))

pub returns-in-Ok-clause-read_only : goal.returns-in-Ok-clause-read_only
returns-in-Ok-clause-read_only g c =
    let old = c.args.checked.now in
    let new = c.plan_commit-planned.new.hash_store in
    read_then g.H.BlockStore old.table old.hash_store new c.table-facts.ensures.facts
    (c.in-Ok.ensures.read_only.later.fixed ∙ ap (λ s. bound_to old.table s.origin) c.requires.unread)

pub returns-in-Err-clause-refused : goal.returns-in-Err-clause-refused
returns-in-Err-clause-refused g c =
    let old = c.args.checked.now in
    let new = c.plan_commit-planned.new.hash_store in
    subst (λ (why : PlanRefused). ExplainsUnplanned g.H.BlockStore old.table (length (g.H.BlockStore.given old.hash_store))
    old.hash_store new.hash_store why)
    (sym (c.refused_for.ensures ∙ ap (λ o. refusal_of o c.in-Err.fault) c.refusal.ensures))
    (explains_then g.H.BlockStore old.table old.hash_store new c.table-facts.ensures.facts
    (c.in-Err.ensures.read_only.later.fixed ∙ ap (λ s. bound_to old.table s.origin) c.requires.unread) (CommitPlan g.row.A.Denot)
    c.in-Err.fault c.requires.allowed
    (subst (λ (n : ℕ). PlansOrFails {T = CommitPlan g.row.A.Denot} (Err c.in-Err.fault) n new.refused)
    (ap (λ s. s.refused) c.requires.unread) c.in-Err.ensures.fails))

pub returns-in-Err-clause-read_only : goal.returns-in-Err-clause-read_only
returns-in-Err-clause-read_only g c =
    let old = c.args.checked.now in
    let new = c.plan_commit-planned.new.hash_store in
    read_then g.H.BlockStore old.table old.hash_store new c.table-facts.ensures.facts
    (c.in-Err.ensures.read_only.later.fixed ∙ ap (λ s. bound_to old.table s.origin) c.requires.unread)

pub returns-in-Ok-clause-each : goal.returns-in-Ok-clause-each
returns-in-Ok-clause-each g c =
    let old = c.args.checked.now in
    let new = c.plan_commit-planned.new.hash_store in
    record {
      paths = reads_paths
          g.H.BlockStore old.table old.hash_store new c.table-facts.ensures.facts
          (c.in-Ok.ensures.read_only.later.fixed ∙ ap (λ s. bound_to old.table s.origin) c.requires.unread) c.args.superblock.now
          c.args.pending.now c.args.first c.args.root c.requires.line (sym c.requires.committed) c.facts.ensures.some
          (subst (λ rows. GivesTouched c.args.superblock.now c.args.pending.now c.args.first c.args.root rows new.given)
          (ap (λ s. s.given) c.requires.unread) c.in-Ok.ensures.gives)
          (c.table-facts.ensures.facts.counted (c.in-Ok.ensures.fails ∙ ap (λ s. s.refused) c.requires.unread));
      each = checks_each_then g.H.BlockStore old.table old.hash_store new c.table-facts.ensures.facts
          (c.in-Ok.ensures.read_only.later.fixed ∙ ap (λ s. bound_to old.table s.origin) c.requires.unread)
          (c.table-facts.ensures.facts.counted (c.in-Ok.ensures.fails ∙ ap (λ s. s.refused) c.requires.unread));
    }

pub returns-in-Ok-clause-most : goal.returns-in-Ok-clause-most
returns-in-Ok-clause-most g c =
    let old = c.args.checked.now in
    let new = c.plan_commit-planned.new.hash_store in
    record {
      paths = reads_most
          g.H.BlockStore old.table old.hash_store new c.table-facts.ensures.facts
          (c.in-Ok.ensures.read_only.later.fixed ∙ ap (λ s. bound_to old.table s.origin) c.requires.unread) c.args.superblock.now
          c.args.pending.now c.args.first c.args.root c.requires.line (sym c.requires.committed) c.facts.ensures.some
          (subst (λ rows. GivesTouched c.args.superblock.now c.args.pending.now c.args.first c.args.root rows new.given)
          (ap (λ s. s.given) c.requires.unread) c.in-Ok.ensures.gives);
      few = checks_then g.H.BlockStore old.table old.hash_store new c.table-facts.ensures.facts
          (c.in-Ok.ensures.read_only.later.fixed ∙ ap (λ s. bound_to old.table s.origin) c.requires.unread);
    }

pub returns-in-Err-clause-most : goal.returns-in-Err-clause-most
returns-in-Err-clause-most g c =
    let old = c.args.checked.now in
    let new = c.plan_commit-planned.new.hash_store in
    record {
      paths = reads_most
          g.H.BlockStore old.table old.hash_store new c.table-facts.ensures.facts
          (c.in-Err.ensures.read_only.later.fixed ∙ ap (λ s. bound_to old.table s.origin) c.requires.unread) c.args.superblock.now
          c.args.pending.now c.args.first c.args.root c.requires.line (sym c.requires.committed) c.facts.ensures.some
          (subst (λ rows. GivesTouched c.args.superblock.now c.args.pending.now c.args.first c.args.root rows new.given)
          (ap (λ s. s.given) c.requires.unread) c.in-Err.ensures.gives);
      few = checks_then g.H.BlockStore old.table old.hash_store new c.table-facts.ensures.facts
          (c.in-Err.ensures.read_only.later.fixed ∙ ap (λ s. bound_to old.table s.origin) c.requires.unread);
    }
