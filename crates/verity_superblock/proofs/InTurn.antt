-- Tests in turn, of which the first that fails is answered.
use Rattle.std.proofs.Common.{◌≡◌, Bool, true, false, Option, Some, None, refl, sym, ap, ◌∙◌}
use Rattle.std.specs.Prelude.{not, ◌&&◌, if◌then◌else◌}
use Rattle.std.specs.Option.{option_or}

pub one-taken : {F : Type 0} (a : Bool) (x : F) → a ≡ true → None ≡ (if not a then Some x else None)
one-taken true x ha = refl
one-taken false x ha = cc

pub one-refused : {F : Type 0} (a : Bool) (x : F) → a ≡ false → Some x ≡ (if not a then Some x else None)
one-refused false x ha = refl
one-refused true x ha = cc

-- three tests
abbrev pub three_tests : {F : Type 0} → Bool → F → Bool → F → Bool → F → Option F
three_tests a x b y c z = if not a then Some x else if not b then Some y else if not c then Some z else None

pub three-first : {F : Type 0} (a b c : Bool) (x y z : F) → a ≡ false → Some x ≡ three_tests a x b y c z
three-first false b c x y z ha = refl
three-first true b c x y z ha = cc

pub three-second : {F : Type 0} (a b c : Bool) (x y z : F) → a ≡ true → b ≡ false → Some y ≡ three_tests a x b y c z
three-second true false c x y z ha hb = refl
three-second true true c x y z ha hb = cc
three-second false b c x y z ha hb = cc

pub three-third : {F : Type 0} (a b c : Bool) (x y z : F) → a ≡ true → b ≡ true → c ≡ false → Some z ≡ three_tests a x b y c z
three-third true true false x y z ha hb hc = refl
three-third true true true x y z ha hb hc = cc
three-third true false c x y z ha hb hc = cc
three-third false b c x y z ha hb hc = cc

pub three-taken : {F : Type 0} (a b c : Bool) (x y z : F) → a ≡ true → b ≡ true → c ≡ true → None ≡ three_tests a x b y c z
three-taken true true true x y z ha hb hc = refl
three-taken true true false x y z ha hb hc = cc
three-taken true false c x y z ha hb hc = cc
three-taken false b c x y z ha hb hc = cc

pub record AllTaken (a b c : Bool) : Type 0 where
  pub first : a ≡ true
  pub second : b ≡ true
  pub third : c ≡ true

pub three-none : {F : Type 0} (a b c : Bool) (x y z : F) → None ≡ three_tests a x b y c z → AllTaken a b c
three-none true true true x y z h = record { first = refl; second = refl; third = refl }
three-none true true false x y z h = cc
three-none true false c x y z h = cc
three-none false b c x y z h = cc

-- two tests
pub two-none : {F : Type 0} (a b : Bool) (x y : F) → None ≡ (if not a then Some x else if not b then Some y else None) →
    (a ≡ true) × (b ≡ true)
two-none true true x y h = (refl, refl)
two-none true false x y h = cc
two-none false b x y h = cc

pub two-taken : {F : Type 0} (a b : Bool) (x y : F) → a ≡ true → b ≡ true →
    None ≡ (if not a then Some x else if not b then Some y else None)
two-taken true true x y ha hb = refl
two-taken true false x y ha hb = cc
two-taken false b x y ha hb = cc

pub one-none : {F : Type 0} (a : Bool) (x : F) → None ≡ (if not a then Some x else None) → a ≡ true
one-none true x h = refl
one-none false x h = cc

-- refusals in a row
pub or-first : {F : Type 0} (f g : Option F) (x : F) → Some x ≡ f → option_or f g ≡ Some x
or-first (Some y) g x e = sym e
or-first None g x e = cc

pub or-next : {F : Type 0} (f g : Option F) → None ≡ f → option_or f g ≡ g
or-next None g e = refl
or-next (Some y) g e = cc

pub or-none_first : {F : Type 0} (f g : Option F) → option_or f g ≡ None → None ≡ f
or-none_first None g e = refl
or-none_first (Some y) g e = cc
