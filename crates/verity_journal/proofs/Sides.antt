-- What the steps of making a side lead to.
use Rattle.std.proofs.Common.{◌≡◌, ℕ, ◌<◌, ◌≤◌, List, [], length, get_or, sym, ap, ◌∙◌, subst}
use Rattle.std.proofs.Common.{zero, suc, ◌∷◌, arith}
use Rattle.std.specs.Prelude.{All}
use Rattle.verity_store.specs.RawFile.{with_length}
use Rattle.verity_disks.specs.declared.disks.Device.{Device}
use Rattle.verity_disks.specs.Disks.{Contents, put, Torn, Stretched, Reached, Follows}
use Rattle.verity_journal.specs.Plan.{Side, Amid, IsBelow, Fit, changed, made}
use Rattle.verity_journal.proofs.Made.{amid_trans, amid_change, amid_stretched, amid_self}
use Rattle.verity_disks.proofs.Moments.{reached_more, reached_self, put_here, put_twice}

module _ (side : Side) (device : Device) (first : Contents → Type 0) where
  pub here_self : (c : Contents) → first c → Reached device (Amid side) first c
  here_self c now = reached_self device (Amid side) first c (amid_self side (c device)) now

  pub change_crash : (mid last : Contents → Type 0) (n at : ℕ) (new : List ℕ) (item : ℕ × List ℕ) → n < length side.changes →
      item ≡ get_or side.changes n (0, []) → at ≡ item.0 → new ≡ item.1
      → ((c : Contents) → mid c → Reached device (Amid side) first c) → Follows device (Torn at (length new)) mid last →
      (c : Contents) → last c → Reached device (Amid side) first c
  change_crash mid last n at new item below is at_is new_is so_far follows c left =
      let joins : (x y z : List ℕ) → Amid side x y → Torn at (length new) y z → Amid side x z =
      λ x y z one two. amid_trans side x y z one (amid_change side n item y z below is
      (subst (λ (m : ℕ). Torn m (length item.1) y z) at_is (subst (λ (l : List ℕ). Torn at (length l) y z) new_is two))) in
      reached_more device (Amid side) (Torn at (length new)) first mid joins so_far c (follows c left)

  pub stretch_crash : (mid last : Contents → Type 0) (n : ℕ) → side.keep ≤ n
      → ((c : Contents) → mid c → Reached device (Amid side) first c) → Follows device (Stretched n) mid last → (c : Contents) →
      last c → Reached device (Amid side) first c
  stretch_crash mid last n long so_far follows c left =
      let joins : (x y z : List ℕ) → Amid side x y → Stretched n y z → Amid side x z =
      λ x y z one two. amid_trans side x y z one (amid_stretched side n y z long two) in
      reached_more device (Amid side) (Stretched n) first mid joins so_far c (follows c left)

  pub amid_crash : (mid last : Contents → Type 0)
      → ((c : Contents) → mid c → Reached device (Amid side) first c) →
      ((c : Contents) → last c → Reached device (Amid side) mid c) → (c : Contents) → last c → Reached device (Amid side) first c
  amid_crash mid last so_far follows c left = reached_more device (Amid side) (Amid side) first mid (amid_trans side) so_far c
      (follows c left)

pub seen_here : (device : Device) (x : List ℕ) (mid new : Contents) → new ≡ put device x mid → new device ≡ x
seen_here device x mid new is = ap (λ (f : Contents). f device) is ∙ put_here device x mid

pub seen_more : (device : Device) (x : List ℕ) (base mid new : Contents) → mid ≡ put device (mid device) base →
    new ≡ put device x mid → new ≡ put device (new device) base
seen_more device x base mid new was is =
    is ∙ ap (λ (f : Contents). put device x f) was ∙ put_twice device x (mid device) base
    ∙ ap (λ (l : List ℕ). put device l base) (sym (seen_here device x mid new is))

-- two lengths and then the changes
pub made_seen : (side : Side) (device : Device) (old one two three : Contents) →
    one ≡ put device (with_length side.keep (old device)) old → two ≡ put device (with_length side.len (one device)) one
    → three ≡ put device (changed side.changes (two device)) two → three ≡ put device (made side (old device)) old
made_seen side device old one two three first second third =
    let a = with_length side.keep (old device) in
    let b = with_length side.len a in
    let one_here = seen_here device _ old one first in
    let two_here : two device ≡ b = seen_here device _ one two second ∙ ap (λ (l : List ℕ). with_length side.len l) one_here in
    let two_is : two ≡ put device b old = second ∙ ap (λ (l : List ℕ). put device (with_length side.len l) one) one_here
    ∙ ap (λ (f : Contents). put device b f) first ∙ put_twice device b a old in
    third ∙ ap (λ (l : List ℕ). put device (changed side.changes l) two) two_here
    ∙ ap (λ (f : Contents). put device (changed side.changes b) f) two_is ∙ put_twice device (changed side.changes b) b old

-- each of the changes, by its number
pub fit_all : (len : ℕ) (changes : List (ℕ × List ℕ)) → All (IsBelow len) changes → Fit len changes
fit_all len [] all = tt
fit_all len (change ∷ changes) all = (all 0 (0, []) (omega arith), fit_all len changes (λ k d h. all (suc k) d (omega (arith, h))))

pub all_fit : (len : ℕ) (changes : List (ℕ × List ℕ)) → Fit len changes → All (IsBelow len) changes
all_fit len [] fit k d h = absurd (omega (arith, h))
all_fit len (change ∷ changes) fit zero d h = fit.0
all_fit len (change ∷ changes) fit (suc k) d h = all_fit len changes fit.1 k d (omega (arith, h))
