-- Of which volume two files hold the line, along a commit and after a crash.
use Rattle.std.proofs.Common.{◌≡◌, refl, sym, ap, subst, ◌∙◌, ◌⊎◌, inl, inr, List, ℕ, Some, None}
use Rattle.os_line_file.specs.Folder.{Texts, with_next, replaced, KeepsLine, MayReplace, MayRemove}
use Rattle.verity_superblock.specs.Line.{TableLine}
use Rattle.verity_superblock.specs.LineLaws.{DeterminesLine}
use Rattle.verity_line_file.specs.Lines.{line_of, text_of, Holds, HoldsWhole}
use Rattle.verity_line_file.specs.Outcome.{IsSettled, IsRefused, IsOther, IsMeant}
use Rattle.verity_line_file.specs.Shown.{Values, HasSizes, Shows}
use Rattle.verity_line_file.specs.Standing.{IsLineOf, IsWholeLineOf, FitsLine, HasLine, HasNext, Replaces, Settles, Stands}
use Rattle.verity_line_file.specs.declared.fault.LineFileFault.{LineFileFault}
use Rattle.verity_line_file.specs.declared.fault.LineFileFault.TheVariants as fault
use Rattle.verity_line_file.specs.declared.line_file.Settled.{Settled}
use Rattle.verity_line_file.specs.declared.line_file.Settled.TheVariants.{Nothing, Kept, Taken}

fits_at : (v : Values) (c d : Texts) → c.line ≡ d.line → FitsLine v d → FitsLine v c
fits_at v c d same (inl none) = inl (same ∙ none)
fits_at v c d same (inr has) = inr (has.0, same ∙ has.1, has.2)

-- FILE.next in FILE's place
moved : (v : Values) (seen c : Texts) → HasNext v seen → c.line ≡ seen.next → HasLine v c
moved v seen c has same = (has.0, same ∙ has.1, (has.2.0, has.2.1.holds, has.2.2))

replaces : (v : Values) (seen c : Texts) → HasNext v seen → MayReplace seen c → Stands v c
replaces v seen c has (inl same) = subst (λ (d : Texts). Stands v d) (sym same) (inl has)
replaces v seen c has (inr part) = inr (inr (moved v seen c has part.0))

pub begun : (v : Values) (may_leave : Texts → Type 0) → ((d : Texts) → may_leave d → FitsLine v d)
    → (c : Texts) → KeepsLine may_leave c → Stands v c
begun v may_leave all c from = inr (fits_at v c from.0 from.2 (all from.0 from.1))

pub before : (v : Values) (texts : Texts) (t : TableLine) → FitsLine v texts → Stands v (with_next (Some (text_of t)) texts)
before v texts t fits = inr (fits_at v (with_next (Some (text_of t)) texts) texts refl fits)

pub next : (w : Values) (texts : Texts) (t : TableLine) → HoldsWhole (text_of t) t → Shows w t
    → HasNext w (with_next (Some (text_of t)) texts)
next w texts t whole shows = (text_of t, refl, (t, whole, shows))

pub after : (w : Values) (texts : Texts) (t : TableLine) → HoldsWhole (text_of t) t → Shows w t
    → Stands w (with_next (Some (text_of t)) texts)
after w texts t whole shows = inl (next w texts t whole shows)

pub stands : (w : Values) (seen : Texts) (may_leave : Texts → Type 0) → HasNext w seen
    → ((d : Texts) → may_leave d → Stands w d) → (c : Texts) → Replaces seen may_leave c → Stands w c
stands w seen may_leave has all c (inl left) = all c left
stands w seen may_leave has all c (inr part) = replaces w seen c has part

pub done : (w : Values) (seen : Texts) → HasNext w seen → HasLine w (replaced seen)
done w seen has = moved w seen (replaced seen) has refl

fits_none : (v : Values) (old : Texts) → old.next ≡ None → Stands v old → FitsLine v old
fits_none v old none (inl has) = absurd (let e : Some has.0 ≡ None = sym has.1 ∙ none in cc)
fits_none v old none (inr fits) = fits

pub fits : (v : Values) (old new : Texts) (done : Settled) → Stands v old → IsSettled v old new done → FitsLine v new
fits v old new Nothing stood is = subst (λ (d : Texts). FitsLine v d) (sym is.1) (fits_none v old is.0 stood)
fits v old new Kept stood is = fits_at v new old (ap (λ (d : Texts). d.line) is.2) is.1
fits v old new Taken stood is = inr (moved v old new is.0 (ap (λ (d : Texts). d.line) is.1))

pub no_next : (v : Values) (old new : Texts) (done : Settled) → IsSettled v old new done → new.next ≡ None
no_next v old new Nothing is = ap (λ (d : Texts). d.next) is.1 ∙ is.0
no_next v old new Kept is = ap (λ (d : Texts). d.next) is.2
no_next v old new Taken is = ap (λ (d : Texts). d.next) is.1

pub held : (v : Values) (old new : Texts) (done : Settled) → IsSettled v old new done → (new.line ≡ old.line) ⊎ (new.line ≡ old.next)
held v old new Nothing is = inl (ap (λ (d : Texts). d.line) is.1)
held v old new Kept is = inl (ap (λ (d : Texts). d.line) is.2)
held v old new Taken is = inr (ap (λ (d : Texts). d.line) is.1)

pub settling : (v : Values) (seen : Texts) (may_leave : Texts → Type 0) → ((d : Texts) → may_leave d → Stands v d)
    → (c : Texts) → Settles v seen may_leave c → Stands v c
settling v seen may_leave all c (inl left) = all c left
settling v seen may_leave all c (inr (inl part)) = replaces v seen c part.0 part.1
settling v seen may_leave all c (inr (inr part)) = inr (fits_at v c seen part.2.0 part.1)

-- a text holds one line at most
pub one_line : DeterminesLine → (text : List ℕ) (t u : TableLine) → Holds text t → Holds text u → t ≡ u
one_line determines text t u first second = determines (line_of text) t u first.line second.line

-- so it isn't another volume's too
pub not_other : DeterminesLine → (v : Values) (text : List ℕ) (e : LineFileFault) → IsOther v text e → IsLineOf v text → ⊥
not_other determines v text fault.Values other of =
    other.2 (subst (λ (t : TableLine). HasSizes v t) (one_line determines text of.0 other.0 of.1 other.1) of.2.sizes)
not_other determines v text fault.Top other of =
    other.3 (subst (λ (t : TableLine). Shows v t) (one_line determines text of.0 other.0 of.1 other.1) of.2)
not_other determines v text (fault.Line why) other of = other of.0 of.1
not_other determines v text fault.Folder other of = other
not_other determines v text fault.NoMemory other of = other

same_text : (a b : List ℕ) → Some a ≡ Some b → a ≡ b
same_text a b e = cc

stands_for_none : DeterminesLine → (v : Values) (texts : Texts) (e : LineFileFault) → (HasNext v texts → ⊥) → (text : List ℕ)
    → texts.line ≡ Some text → IsOther v text e → Stands v texts → ⊥
stands_for_none determines v texts e none_next text is other (inl has) = none_next has
stands_for_none determines v texts e none_next text is other (inr (inl none)) = let f : Some text ≡ None = sym is ∙ none in cc
stands_for_none determines v texts e none_next text is other (inr (inr has)) =
    not_other determines v text e other
    (subst (λ (l : List ℕ). IsLineOf v l) (same_text has.0 text (sym has.1 ∙ is)) has.2)

pub refused : DeterminesLine → (v : Values) (texts : Texts) (e : LineFileFault) → IsMeant e → IsRefused v texts e → Stands v texts → ⊥
refused determines v texts fault.Values meant is stood = stands_for_none determines v texts fault.Values is.0 is.1.0 is.1.1 is.1.2 stood
refused determines v texts fault.Top meant is stood = stands_for_none determines v texts fault.Top is.0 is.1.0 is.1.1 is.1.2 stood
refused determines v texts (fault.Line why) meant is stood =
    stands_for_none determines v texts (fault.Line why) is.0 is.1.0 is.1.1 is.1.2 stood
refused determines v texts fault.Folder meant is stood = meant
refused determines v texts fault.NoMemory meant is stood = meant
