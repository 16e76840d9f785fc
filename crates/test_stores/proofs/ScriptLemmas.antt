-- What a script's reads tell, as the trait asks.
use Rattle.std.proofs.Common.{◌≡◌, refl, ℕ, ◌+◌, ◌<◌, ◌≤◌, Option, None, Some, List, [], ◌∷◌, ◌++◌, length, Result, Ok, Err, IsOk}
use Rattle.std.proofs.Common.{OnOk, OnErr, IfErr, sym, subst, arith}
use Rattle.std.proofs.lemmas.Bool.{false≢true}
use Rattle.verity_store.specs.Given.{GoesOn}
use Rattle.verity_store.proofs.GivenLemmas.{goes_on_same, goes_on_push}
use Rattle.test_stores.specs.Script.{Script, after_read}
use Rattle.verity_store.specs.declared.fault.StoreFault.{StoreFault}
use Rattle.verity_store.specs.declared.fault.StoreFault.TheVariants.{Device}

pub record ReadTells (old new : Script) (n : ℕ) (out : List ℕ) (result : Result (Unit {0}) StoreFault) : Type 0 where
  pub given : OnOk result (new.given ≡ old.given ++ (n, out) ∷ [])
  pub ungiven : OnErr result (new.given ≡ old.given)
  pub error : IfErr result (λ e. e ≡ Device)
  pub failed : OnErr result (old.failures < new.failures)
  pub unfailed : OnOk result (new.failures ≡ old.failures)
  pub failures : old.failures ≤ new.failures
  pub counted : new.reads ≡ old.reads + 1
  pub changes : new.changes ≡ old.changes
  pub blocks : new.blocks ≡ old.blocks
  pub size : new.size ≡ old.size
  pub gave : GoesOn old.given new.given

read_fails : (n : ℕ) (old : Script) (out : List ℕ) → ReadTells old (after_read n None old) n out (Err Device)
read_fails n old out = record {
  given = tt;
  ungiven = refl;
  error = refl;
  failed = omega arith;
  unfailed = tt;
  failures = omega arith;
  counted = refl;
  changes = refl;
  blocks = refl;
  size = refl;
  gave = goes_on_same old.given;
}

read_gives : (n : ℕ) (block : List ℕ) (old : Script) (u : Unit {0}) → length block ≡ old.size →
    ReadTells old (after_read n (Some block) old) n block (Ok u)
read_gives n block old u whole =
    record {
      given = refl;
      ungiven = tt;
      error = tt;
      failed = tt;
      unfailed = refl;
      failures = omega arith;
      counted = refl;
      changes = refl;
      blocks = refl;
      size = refl;
      gave = goes_on_push old.given _ (n, block) refl;
    }

pub read_tells : (n : ℕ) (next : Option (List ℕ)) (old new : Script) (out : List ℕ) (result : Result (Unit {0}) StoreFault) →
    length out ≡ old.size → new ≡ after_read n next old
    → ((b : List ℕ) → next ≡ Some b → IsOk result × (out ≡ b)) → (next ≡ None → result ≡ Err Device) → ReadTells old new n out result
read_tells n None old new out result whole after gives fails =
    subst (λ s. ReadTells old s n out result) (sym after) (subst (λ r. ReadTells old (after_read n None old) n out r)
    (sym (fails refl)) (read_fails n old out))
read_tells n (Some block) old new out (Ok u) whole after gives fails =
    let same : out ≡ block = (gives block refl).1 in
    subst (λ s. ReadTells old s n out (Ok u)) (sym after) (subst (λ b. ReadTells old (after_read n (Some b) old) n out (Ok u)) same
    (read_gives n out old u whole))
read_tells n (Some block) old new out (Err e) whole after gives fails = absurd (false≢true (gives block refl).0)

pub on_ok_always : (result : Result (Unit {0}) StoreFault) (P : Type 0) → P → OnOk result P
on_ok_always (Ok u) P p = p
on_ok_always (Err e) P p = tt
