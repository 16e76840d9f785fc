use Rattle.std.proofs.Common.{◌∙◌, ℕ, ◌+◌, ◌<◌, [], get_or, arith, ap, subst, sym}
use Rattle.std.proofs.lemmas.List.{get_or_default}
use Rattle.std.proofs.lemmas.Result.{err_from_is_err_and}
use Rattle.verity_store.specs.Stores.{IsOnlyRead}
use Rattle.verity_store.proofs.StoreLemmas.{only_read_same}
use Rattle.verity_tree.specs.Opens.{opens}
use Rattle.verity_tree.specs.Ahead.{AreAhead, AreOfGiven, IsOfGiven}
use Rattle.verity_tree.proofs.Ahead.{ahead_taken, given_taken}
use Rattle.verity_tree.proofs.leaves.Leaves.next.Goals as goal
use Rattle.verity_tree.proofs.leaves.Leaves.next.Goals.{then-self+in_ok-fill, else-self}

pub returns-clause-ahead : goal.returns-clause-ahead
returns-clause-ahead g c =
    let D = g.D.BlockStore in
    let n : ℕ = c.args.n in
    let salted = c.args.tree.now.hasher.salted in
    let now = c.if-self.self in
    let taken = ahead_taken D salted n c.if-self.data_store now.digests now.taken now.held in
    elim c.if-self.branch [
      | then-self+in_ok-fill w ↦
          let filled = w.in_ok-fill.ensures in
          taken (omega (arith, filled.some, ap (λ x. x.taken) w.self-is, ap (λ x. x.held) w.self-is))
          (subst (λ x. AreAhead D salted n c.if-self.data_store x.digests x.taken x.held) (sym w.self-is)
          (subst (λ s. AreAhead D salted n s w.fill.new.self.digests w.fill.new.self.taken w.fill.new.self.held)
          (sym w.data_store-is) filled.ahead))
      | else-self w ↦
          let old = c.args.self.now in
          taken (omega (arith, old.order, ap (λ x. x.taken) w.self-is, ap (λ x. x.held) w.self-is))
          (subst (λ x. AreAhead D salted n c.if-self.data_store x.digests x.taken x.held) (sym w.self-is)
          (subst (λ s. AreAhead D salted n s old.digests old.taken old.held) (sym w.data_store-is) c.requires.ahead))
    ]

pub returns-in_err-fill : goal.returns-in_err-fill
returns-in_err-fill g c =
    let p = err_from_is_err_and c.from_residual.result c.from_residual.ensures.1 in
    let filled = c.in_err-fill.ensures in
    rw (p.1, p.2) record {
      sized = tt;
      right = tt;
      ahead = tt;
      given = λ mark marked given. tt;
      reads = tt;
      reads_most = omega (arith, filled.reads_most, c.if-self.true);
      read = filled.read;
      which = filled.which;
      failed = filled.failed;
      unfailed = tt;
      opens = filled.opens;
      root = filled.root;
      salted = filled.salted;
      geometry = filled.geometry;
    }

pub returns-clause-read : goal.returns-clause-read
returns-clause-read g c = elim c.if-self.branch [
  | then-self+in_ok-fill w ↦ subst (λ s. IsOnlyRead g.D.BlockStore c.args.data_store.now s) (sym w.data_store-is) w.in_ok-fill.ensures.read
  | else-self w ↦ subst (λ s. IsOnlyRead g.D.BlockStore c.args.data_store.now s) (sym w.data_store-is)
      (only_read_same g.D.BlockStore c.args.data_store.now)
]

pub returns-clause-unfailed : goal.returns-clause-unfailed
returns-clause-unfailed g c = elim c.if-self.branch [
  | then-self+in_ok-fill w ↦ ap g.D.BlockStore.failures w.data_store-is ∙ w.in_ok-fill.ensures.unfailed
  | else-self w ↦ ap g.D.BlockStore.failures w.data_store-is
]

pub returns-clause-opens : goal.returns-clause-opens
returns-clause-opens g c = elim c.if-self.branch [
  | then-self+in_ok-fill w ↦ ap opens w.tree-is ∙ w.in_ok-fill.ensures.opens
  | else-self w ↦ ap opens w.tree-is
]

pub returns-clause-root : goal.returns-clause-root
returns-clause-root g c = elim c.if-self.branch [
  | then-self+in_ok-fill w ↦ ap (λ t. t.root) w.tree-is ∙ w.in_ok-fill.ensures.root
  | else-self w ↦ ap (λ t. t.root) w.tree-is
]

pub returns-clause-salted : goal.returns-clause-salted
returns-clause-salted g c = elim c.if-self.branch [
  | then-self+in_ok-fill w ↦ ap (λ t. t.hasher.salted) w.tree-is ∙ w.in_ok-fill.ensures.salted
  | else-self w ↦ ap (λ t. t.hasher.salted) w.tree-is
]

pub returns-clause-geometry : goal.returns-clause-geometry
returns-clause-geometry g c = elim c.if-self.branch [
  | then-self+in_ok-fill w ↦ ap (λ t. t.geometry) w.tree-is ∙ w.in_ok-fill.ensures.geometry
  | else-self w ↦ ap (λ t. t.geometry) w.tree-is
]

pub returns-clause-given : goal.returns-clause-given
returns-clause-given g c = λ mark marked given.
    let D = g.D.BlockStore in
    let n : ℕ = c.args.n in
    let salted = c.args.tree.now.hasher.salted in
    let now = c.if-self.self in
    let s = c.if-self.data_store in
    let both : IsOfGiven D salted mark n s (get_or now.digests now.taken [])
    × AreOfGiven D salted mark (n + 1) s now.digests (now.taken + 1) now.held × (now.taken < now.held) =
    elim c.if-self.branch [
      | then-self+in_ok-fill w ↦
          let filled = w.in_ok-fill.ensures in
          let some : now.taken < now.held = omega (arith, filled.some, ap (λ x. x.taken) w.self-is, ap (λ x. x.held) w.self-is) in
          let two = given_taken D salted mark n s now.digests now.taken now.held some
          (subst (λ x. AreOfGiven D salted mark n s x.digests x.taken x.held) (sym w.self-is)
          (subst (λ x. AreOfGiven D salted mark n x w.fill.new.self.digests w.fill.new.self.taken w.fill.new.self.held)
          (sym w.data_store-is) (filled.given mark marked))) in
          (two.0, two.1, some)
      | else-self w ↦
          let old = c.args.self.now in
          let some : now.taken < now.held = omega (arith, old.order, ap (λ x. x.taken) w.self-is, ap (λ x. x.held) w.self-is) in
          let two = given_taken D salted mark n s now.digests now.taken now.held some
          (subst (λ x. AreOfGiven D salted mark n s x.digests x.taken x.held) (sym w.self-is)
          (subst (λ x. AreOfGiven D salted mark n x old.digests old.taken old.held) (sym w.data_store-is) given)) in
          (two.0, two.1, some)
    ] in
    let some : now.taken < now.held = both.2 in (
      subst (λ digest. IsOfGiven D salted mark n s digest)
          (get_or_default now.digests now.taken [] c.index-self-self.result (omega (arith, some))) both.0,
      both.1,
    )
