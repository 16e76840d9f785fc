use Rattle.std.proofs.Common.{◌≡◌, ◌≢◌, ℕ, suc, ◌+◌, ◌-◌, ◌<◌, ◌≤◌, ◌⊎◌, inl, inr, ⊎_elim, List, [], Err, length, get_or, set, refl}
use Rattle.std.proofs.Common.{sym, ap, ◌∙◌, subst, arith}
use Rattle.std.proofs.lemmas.Result.{err_from_is_err_and}
use Rattle.verity_digest.specs.Hash.{Salted, hashing}
use Rattle.verity_digest.specs.Tree.{Hashing, tree, root}
use Rattle.verity_geometry.specs.Geometry.{Shape, levels_of, total_of}
use Rattle.verity_store.specs.Blocks.{resized}
use Rattle.verity_store.proofs.StoreLemmas.{later_then}
use Rattle.verity_superblock.specs.Superblock.{zero_filled}
use Rattle.verity_tree.specs.Opens.{opens}
use Rattle.verity_tree.proofs.Trees.{levels_of_opens}
use Rattle.verity_build.proofs.Finishes.{root_known, root_right, length-resized, get_or-resized_old}
use Rattle.verity_slices.specs.Level.{level_in}
use Rattle.verity_slices.specs.Walked.{IsLevel}
use Rattle.verity_slices.specs.Given.{IsRootOfGivenLevel}
use Rattle.verity_slices.proofs.Devices.{level_stands, joined_is, tree_there}
use Rattle.verity_slices.proofs.Lengths.{later_cut, cut_failed, toward_longer, toward_kept}
use Rattle.verity_slices.proofs.Givens.{given_earlier, given_on}
use Rattle.verity_slices.proofs.joining.join_device.Goals as goal

pub unreachable-requires : goal.unreachable-requires
unreachable-requires g c =
    let first = c.args.tree.now in
    let new = c.join_tree.new.tree in
    let wrote = c.in_ok-join_tree.ensures in
    root_known first.geometry (opens new) new.root first.shaped (levels_of_opens new ∙ ap levels_of wrote.geometry) wrote.grown c.in-None.is

pub returns-clause-joined : goal.returns-clause-joined
returns-clause-joined g c = λ tells.
    let H = g.H.BlockStore in
    let first = c.args.tree.now in
    let s : Shape = first.geometry in
    let salted : Salted = first.hasher.salted in
    let h : Hashing = hashing salted s.hash_size in
    let device = c.args.hash_store.now in
    let start : ℕ = c.args.start in
    let old : List (List ℕ) = H.content device in
    let mid : List (List ℕ) = H.content c.join_tree.new.hash_store in
    let new : List (List ℕ) = H.content c.write_superblock.new.hash_store in
    let full : ℕ = start + total_of s + s.blocks in
    let superblock : List ℕ = zero_filled s.hash_size c.args.superblock.now in
    let cut = c.in_ok-set_len.ensures in
    let wrote = c.in_ok-join_tree.ensures in
    let last = c.in_ok-write_superblock.ensures in
    let all : start + c.total.result + c.blocks-2.result ≡ full = (λ i. start + c.total.ensures.value i + c.blocks-2.ensures.value i) in
    let cut_is : H.content c.set_len.new.self ≡ resized s.hash_size full old =
    cut.done ∙ (λ i. resized (c.requires.hash_size i) (all i) old) in
    let mid_len : length mid ≡ full = wrote.joins.len ∙ ap length cut_is ∙ length-resized s.hash_size full old in
    let others = λ (q : ℕ) (apart : (q < start) ⊎ (start + total_of s ≤ q)).
    wrote.joins.others q apart ∙ ap (λ (b : List (List ℕ)). get_or b q []) cut_is in
    let size : H.size c.join_tree.new.hash_store ≡ s.hash_size = wrote.joins.later.size ∙ cut.size ∙ c.requires.hash_size in
    let is : new ≡ set mid (start - 1) superblock =
    last.written (wrote.joins.later.tells ∙ cut.tells ∙ tells)
    ∙ ap (λ z. set mid (start - 1) (zero_filled z c.args.superblock.now)) size in
    let level : List (List ℕ) = level_in s start old in
    let stands = level_stands s start old in
    let right = wrote.right (cut.tells ∙ tells) level
    (subst (λ b. IsLevel (start + total_of s) s.blocks b level) (sym cut_is) stands) in
    let levels = levels_of_opens c.join_tree.new.tree ∙ ap levels_of wrote.geometry in
    joined_is s start old mid new superblock c.requires.behind mid_len others is (tree h level)
    (tree_there s start old mid new superblock c.requires.behind mid_len others is (opens c.join_tree.new.tree) c.join_tree.new.tree.root
    first.shaped levels wrote.grown salted level first.sized stands.len right.1)

pub returns-clause-root : goal.returns-clause-root
returns-clause-root g c = λ tells.
    let H = g.H.BlockStore in
    let first = c.args.tree.now in
    let s : Shape = first.geometry in
    let start : ℕ = c.args.start in
    let old : List (List ℕ) = H.content c.args.hash_store.now in
    let full : ℕ = start + total_of s + s.blocks in
    let new = c.join_tree.new.tree in
    let cut = c.in_ok-set_len.ensures in
    let wrote = c.in_ok-join_tree.ensures in
    let all : start + c.total.result + c.blocks-2.result ≡ full = (λ i. start + c.total.ensures.value i + c.blocks-2.ensures.value i) in
    let cut_is : H.content c.set_len.new.self ≡ resized s.hash_size full old =
    cut.done ∙ (λ i. resized (c.requires.hash_size i) (all i) old) in
    let level : List (List ℕ) = level_in s start old in
    let stands = level_stands s start old in
    let right = wrote.right (cut.tells ∙ tells) level
    (subst (λ b. IsLevel (start + total_of s) s.blocks b level) (sym cut_is) stands) in
    root_right s (opens new) new.root first.shaped (levels_of_opens new ∙ ap levels_of wrote.geometry) wrote.grown
    first.hasher.salted level first.sized stands.len c.in-Some.root right.0 c.in-Some.is

pub returns-clause-given : goal.returns-clause-given
returns-clause-given g c =
    let H = g.H.BlockStore in
    let first = c.args.tree.now in
    let s : Shape = first.geometry in
    let device = c.args.hash_store.now in
    let new = c.join_tree.new.tree in
    let cut = c.in_ok-set_len.ensures in
    let wrote = c.in_ok-join_tree.ensures in
    let last = c.in_ok-write_superblock.ensures in
    let level = wrote.given.0 in
    let at : ℕ = c.args.start + total_of s in
    record {
      level = level;
      len = wrote.given.1;
      given = given_on H device c.join_tree.new.hash_store c.write_superblock.new.hash_store at level last.later.gave
          (given_earlier H device c.set_len.new.self c.join_tree.new.hash_store at level (omega (arith, ap length cut.given)) cut.size
          wrote.given.2);
      is = root_right s (opens new) new.root first.shaped (levels_of_opens new ∙ ap levels_of wrote.geometry) wrote.grown
          first.hasher.salted level first.sized wrote.given.1 c.in-Some.root wrote.given.3 c.in-Some.is;
    }

pub returns-clause-front : goal.returns-clause-front
returns-clause-front g c = λ q early inside.
    let H = g.H.BlockStore in
    let s : Shape = c.args.tree.now.geometry in
    let old : List (List ℕ) = H.content c.args.hash_store.now in
    let cut = c.in_ok-set_len.ensures in
    let wrote = c.in_ok-join_tree.ensures in
    let last = c.in_ok-write_superblock.ensures in
    let full : ℕ = c.args.start + c.total.result + c.blocks-2.result in
    last.others.1 q (λ e. omega (arith, e, early))
    ∙ wrote.joins.others q (inl (omega (arith, early)))
    ∙ ap (λ (b : List (List ℕ)). get_or b q []) cut.done
    ∙ get_or-resized_old (H.size c.args.hash_store.now) full old q (omega (arith, early)) inside

pub returns-clause-level : goal.returns-clause-level
returns-clause-level g c = λ q from below inside.
    let H = g.H.BlockStore in
    let s : Shape = c.args.tree.now.geometry in
    let old : List (List ℕ) = H.content c.args.hash_store.now in
    let cut = c.in_ok-set_len.ensures in
    let wrote = c.in_ok-join_tree.ensures in
    let last = c.in_ok-write_superblock.ensures in
    let full : ℕ = c.args.start + c.total.result + c.blocks-2.result in
    last.others.1 q (λ e. omega (arith, e, from, c.requires.behind))
    ∙ wrote.joins.others q (inr (omega (arith, from)))
    ∙ ap (λ (b : List (List ℕ)). get_or b q []) cut.done
    ∙ get_or-resized_old (H.size c.args.hash_store.now) full old q
    (omega (arith, below, c.total.ensures.value, c.blocks-2.ensures.value)) inside
