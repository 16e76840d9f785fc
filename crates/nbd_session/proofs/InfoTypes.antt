-- The answers to options.
use Rattle.std.proofs.Common.{◌≡◌, ℕ, zero, suc, ◌+◌, ◌-◌, ◌<◌, ◌||◌, List, [], ◌++◌, length, drop, sym, ap, ◌∙◌, arith, append_assoc}
use Rattle.std.proofs.lemmas.List.{drop-drop}
use Rattle.std.proofs.lemmas.Bool.{ne_eqb}
use Rattle.byteorder.specs.Endian.{big_bytes}
use Rattle.nbd_session.specs.declared.offer.Offer.{Offer}
use Rattle.nbd_session.specs.Options.{list_replies, lists_type}
use Rattle.nbd_session.specs.Messages.{number_at}
use Rattle.nbd_session.specs.Protocol.{option_reply_magic}

-- the first type, and the others
pub lists_next : (left kind place : ℕ) (types : List ℕ) → 0 < left → (number_at place 2 types ≡ kind → ⊥) →
    lists_type left kind (drop place types) ≡ lists_type (left - 1) kind (drop (place + 2) types)
lists_next zero kind place types h n = absurd (omega arith)
lists_next (suc k) kind place types h n =
    let e : suc k - 1 ≡ k = omega arith in
    ap (λ b. b || lists_type k kind (drop 2 (drop place types))) (ne_eqb (number_at place 2 types) kind n)
    ∙ ap (lists_type k kind) (drop-drop 2 place types)
    ∙ ap (λ x. lists_type x kind (drop (place + 2) types)) (sym e)

-- one part after another
pub two_parts : (o o1 o2 a b : List ℕ) → o1 ≡ o ++ a → o2 ≡ o1 ++ b → o2 ≡ o ++ (a ++ b)
two_parts o o1 o2 a b e f = f ∙ ap (λ x. x ++ b) e ∙ append_assoc o a b

pub three_parts : (o o1 o2 o3 a b c : List ℕ) → o1 ≡ o ++ a → o2 ≡ o1 ++ b → o3 ≡ o2 ++ c → o3 ≡ o ++ ((a ++ b) ++ c)
three_parts o o1 o2 o3 a b c e f g = two_parts o o2 o3 (a ++ b) c (two_parts o o1 o2 a b e f) g

pub four_parts : (o o1 o2 o3 o4 a b c d : List ℕ) → o1 ≡ o ++ a → o2 ≡ o1 ++ b → o3 ≡ o2 ++ c → o4 ≡ o3 ++ d →
    o4 ≡ o ++ (((a ++ b) ++ c) ++ d)
four_parts o o1 o2 o3 o4 a b c d e f g h = two_parts o o3 o4 ((a ++ b) ++ c) d (three_parts o o1 o2 o3 a b c e f g) h

abbrev pub head_bytes : (number kind len : ℕ) → List ℕ
head_bytes number kind len = big_bytes 8 option_reply_magic ++ big_bytes 4 number ++ big_bytes 4 kind ++ big_bytes 4 len

-- the reply that names the export, and its end
pub name_told : (offer : Offer) (number : ℕ) (out h s m e : List ℕ) → h ≡ head_bytes number 2 (length m + 4) →
    s ≡ big_bytes 4 (length m) → m ≡ offer.name → e ≡ head_bytes number 1 0
    → out ++ (((h ++ s) ++ m) ++ e) ≡ out ++ list_replies offer number []
name_told offer number out h s m e hh hs hm he =
    let name = offer.name in
    let l : length name + 4 ≡ length (big_bytes 4 (length name) ++ name) = omega arith in
    ap (λ (x : List ℕ). out ++ (((x ++ s) ++ m) ++ e)) hh
    ∙ ap (λ (x : List ℕ). out ++ (((head_bytes number 2 (length m + 4) ++ x) ++ m) ++ e)) hs
    ∙ ap (λ (x : List ℕ). out ++ (((head_bytes number 2 (length x + 4) ++ big_bytes 4 (length x)) ++ x) ++ e)) hm
    ∙ ap (λ (x : List ℕ). out ++ (((head_bytes number 2 (length name + 4) ++ big_bytes 4 (length name)) ++ name) ++ x)) he
    ∙ ap (λ (n : ℕ). out ++ (((head_bytes number 2 n ++ big_bytes 4 (length name)) ++ name) ++ head_bytes number 1 0)) l
