-- What was read of the export, READ by READ.
use Rattle.std.proofs.Common.{◌≡◌, ℕ, ◌+◌, List, [], ◌∷◌, ◌++◌, refl, subst, arith}
use Rattle.nbd_session.specs.Transmission.{Answer, Says, Asks}
use Rattle.nbd_session.specs.Export.{Facts, Keeps, Spends, Spent}

Spends-later : (P Q : ℕ → ℕ → ℕ → Type 0) → ((o l n : ℕ) → P o l n → Q o l n) → (answers : List Answer) (n : ℕ) →
    Spends P answers n → Spends Q answers n
Spends-later P Q f [] n s = s
Spends-later P Q f (Says bytes ∷ answers) n s = Spends-later P Q f answers n s
Spends-later P Q f (Asks o l cookie ∷ answers) n s = (s.0, s.1, f o l s.0 s.2, Spends-later P Q f answers s.1 s.3, s.4)

Spends-append : (P : ℕ → ℕ → ℕ → Type 0) (xs ys : List Answer) (m n k : ℕ) → k ≡ m + n → Spends P xs m → Spends P ys n →
    Spends P (xs ++ ys) k
Spends-append P [] ys m n k e s t = let is : n ≡ k = omega (arith, s, e) in subst (Spends P ys) is t
Spends-append P (Says bytes ∷ xs) ys m n k e s t = Spends-append P xs ys m n k e s t
Spends-append P (Asks o l cookie ∷ xs) ys m n k e s t =
    let sum = s.4 in (s.0, s.1 + n, s.2, Spends-append P xs ys s.1 n (s.1 + n) refl s.3 t, omega (arith, sum, e))

pub spent_none : (now : Facts) → Spent now now []
spent_none now = record { cost = 0; reads = omega arith; spends = refl }

pub spent_on : (a b c : Facts) (xs ys : List Answer) → Keeps b c → Spent a b xs → Spent b c ys → Spent a c (xs ++ ys)
spent_on a b c xs ys k s t = record {
  cost = s.cost + t.cost;
  reads = let p = s.reads in let q = t.reads in omega (arith, p, q);
  spends = Spends-append c.may_cost xs ys s.cost t.cost (s.cost + t.cost) refl (Spends-later b.may_cost c.may_cost k.cost xs s.cost
      s.spends) t.spends;
}
