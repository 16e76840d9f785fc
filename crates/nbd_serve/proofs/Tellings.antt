-- Lines that are printed one after the other.
use Rattle.std.proofs.Common.{◌≡◌, refl, sym, ap, ◌∙◌, ℕ, ◌+◌, ◌≤◌, slice_get, get_or, Bool, true, false, ◌||◌, not}
use Rattle.std.proofs.Common.{List, [], ◌∷◌, ◌++◌, map}
use Rattle.std.proofs.Common.{Option, Some, None, Result, Ok, Err, OnOk, append-nil, codes, subst, arith, if◌then◌else◌, ◌==◌}
use Rattle.std.proofs.Math.Bool.{or_assoc}
use Rattle.std.proofs.lemmas.Bool.Decides.{nat_tests}
use Rattle.std.proofs.lemmas.Option.{get_or_from_slice_get, slice_get_within}
use Rattle.std.proofs.lemmas.List.{length-append, map-append}
use Rattle.std.proofs.lemmas.List.Folds.{list_any-append}
use Rattle.std.proofs.lemmas.List.Sums.{sum_by-append, sum_by-remove}
use Rattle.std.proofs.lemmas.Grind.{flat_map-append}
use Rattle.std.proofs.KnownBytes.{Appends-nil, Appends-trans}
use Rattle.std.specs.List.{list_any, remove}
use Rattle.std.specs.Io.KnownBytes.{Appends}
use Rattle.nbd_hub.specs.declared.fault.ServeFault.{ServeFault}
use Rattle.nbd_serve.specs.Lines.{ended_line, names_fault, line, times, given, Standing, standing, Tells, IsServing, IsServed}

or_none : (b : Bool) → b ≡ (b || false)
or_none true = refl
or_none false = refl

or_all : (b : Bool) → true ≡ (b || true)
or_all true = refl
or_all false = refl

times_append : (k : ℕ) (xs ys : List ℕ) → times k (xs ++ ys) ≡ times k xs + times k ys
times_append k xs ys = sum_by-append (λ other. if other == k then 1 else 0) xs ys

-- of a list that one was taken out of
pub times_removed : (k : ℕ) (ns ms : List ℕ) (at x : ℕ) → slice_get ns at ≡ Some x → ms ≡ remove ns at
    → times k ns ≡ times k ms + times k (x ∷ [])
times_removed k ns ms at x is rest =
    let left : times k ms ≡ times k (remove ns at) = ap (times k) rest in
    let one : times k (x ∷ []) ≡ times k (get_or ns at x ∷ []) = ap (λ n. times k (n ∷ [])) (sym (get_or_from_slice_get ns at x x is)) in
    omega (arith, sum_by-remove (λ other. if other == k then 1 else 0) ns at x (slice_get_within ns at x is), left, one)

times_none : (k : ℕ) → times k [] ≡ 0
times_none k = refl

given_none : (k : ℕ) → given k 0 ≡ 0
given_none k = grind (arith, nat_tests)

given_one : (k n : ℕ) → 1 ≤ k → k ≤ n → given k n ≡ 1
given_one k n p q = grind (arith, nat_tests, p, q)

given_next : (k n : ℕ) → given k n + times k ((n + 1) ∷ []) ≡ given k (n + 1)
given_next k n = grind (arith, nat_tests)

-- nothing was printed
pub tells_none : (out : Option (List ℕ)) (s : Standing) → Tells out out s s
tells_none out s = record {
  ends = [];
  printed = Appends-nil out;
  count = omega arith;
  faulty = or_none s.faulty;
  once = λ k. omega (arith, times_none k);
}

pub tells_same : (out : Option (List ℕ)) (e a : ℕ) (ns ms : List ℕ) (f : Bool) → ms ≡ ns
    → Tells out out (standing e a ns f) (standing e a ms f)
tells_same out e a ns ms f is = subst (λ (ms : List ℕ). Tells out out (standing e a ns f) (standing e a ms f)) (sym is)
    (tells_none out (standing e a ns f))

-- one more is connected
pub tells_seated : (out : Option (List ℕ)) (e a : ℕ) (ns ms : List ℕ) (f : Bool) → ms ≡ ns ++ (a + 1) ∷ []
    → Tells out out (standing e a ns f) (standing e (a + 1) ms f)
tells_seated out e a ns ms f is = record {
  ends = [];
  printed = Appends-nil out;
  count = omega arith;
  faulty = or_none f;
  once = λ k. let added : times k ms ≡ times k ns + times k ((a + 1) ∷ []) = ap (times k) is ∙ times_append k ns ((a + 1) ∷ []) in
      omega (arith, times_none k, added, given_next k a);
}

-- or got no session, and a line was printed
pub tells_refused : (old new : Option (List ℕ)) (e a : ℕ) (ns ms : List ℕ) (f : Bool) (fault : ServeFault) → ms ≡ ns
    → Appends old new (ended_line (a + 1, Some fault)) → Tells old new (standing e a ns f) (standing (e + 1) (a + 1) ms true)
tells_refused old new e a ns ms f fault is p = record {
  ends = (a + 1, Some fault) ∷ [];
  printed = subst (Appends old new) (sym (append-nil (ended_line (a + 1, Some fault)))) p;
  count = omega arith;
  faulty = or_all f;
  once = λ k. let same : times k ms ≡ times k ns = ap (times k) is in omega (arith, same, given_next k a);
}

-- one session ended that had no fault
pub tells_end : (old new : Option (List ℕ)) (e a : ℕ) (ns ms : List ℕ) (f : Bool) (number : ℕ)
    → ((k : ℕ) → times k ns ≡ times k ms + times k (number ∷ [])) → Appends old new (ended_line (number, None))
    → Tells old new (standing e a ns f) (standing (e + 1) a ms f)
tells_end old new e a ns ms f number left p = record {
  ends = (number, None) ∷ [];
  printed = subst (Appends old new) (sym (append-nil (ended_line (number, None)))) p;
  count = omega arith;
  faulty = or_none f;
  once = λ k. omega (arith, left k);
}

-- or that had one
pub tells_fault : (old new : Option (List ℕ)) (e a : ℕ) (ns ms : List ℕ) (f : Bool) (number : ℕ) (fault : ServeFault)
    → ((k : ℕ) → times k ns ≡ times k ms + times k (number ∷ [])) → Appends old new (ended_line (number, Some fault))
    → Tells old new (standing e a ns f) (standing (e + 1) a ms true)
tells_fault old new e a ns ms f number fault left p = record {
  ends = (number, Some fault) ∷ [];
  printed = subst (Appends old new) (sym (append-nil (ended_line (number, Some fault)))) p;
  count = omega arith;
  faulty = or_all f;
  once = λ k. omega (arith, left k);
}

-- these, and then those
pub tells_then : (a b c : Option (List ℕ)) (s t u : Standing) → Tells a b s t → Tells b c t u → Tells a c s u
tells_then a b c s t u p q = record {
  ends = p.ends ++ q.ends;
  printed = subst (Appends a c) (sym (flat_map-append ended_line p.ends q.ends)) (Appends-trans a b c _ _ p.printed q.printed);
  count = omega (arith, p.count, q.count, length-append p.ends q.ends);
  faulty = q.faulty ∙ ap (λ x. x || list_any names_fault q.ends) p.faulty
      ∙ or_assoc s.faulty (list_any names_fault p.ends) (list_any names_fault q.ends)
      ∙ ap (λ x. s.faulty || x) (sym (list_any-append names_fault p.ends q.ends));
  once = λ k. let first : (ℕ × Option ServeFault) → ℕ = λ ended. ended.0 in
      let both : times k (map first (p.ends ++ q.ends)) ≡ times k (map first p.ends) + times k (map first q.ends) =
      ap (times k) (map-append first p.ends q.ends) ∙ times_append k (map first p.ends) (map first q.ends) in
      omega (arith, p.once k, q.once k, both);
}

pub tells_from : (a b : Option (List ℕ)) (s t u : Standing) → s ≡ t → Tells a b s u → Tells a b t u
tells_from a b s t u p q = subst (λ (s : Standing). Tells a b s u) p q

pub tells_to : (a b : Option (List ℕ)) (s t u : Standing) → u ≡ t → Tells a b s t → Tells a b s u
tells_to a b s t u p q = subst (λ (t : Standing). Tells a b s t) (sym p) q

-- all of so many sessions
pub tells_all : (a b : Option (List ℕ)) (e n sessions : ℕ) (ns : List ℕ) (g : Bool) → e ≡ sessions → n ≡ sessions → ns ≡ []
    → Tells a b (standing 0 0 [] false) (standing e n ns g) → IsServing a b sessions (not g)
tells_all a b e n sessions ns g p q r t = record {
  ends = t.ends;
  printed = t.printed;
  count = omega (arith, t.count, p);
  numbered = λ k from to. let none : times k ns ≡ 0 = ap (times k) r ∙ times_none k in
      let all : given k n ≡ 1 = given_one k n from (omega (arith, q, to)) in
      omega (arith, t.once k, none, all, given_none k, times_none k);
  clean = ap not t.faulty;
}

-- and before them the line which says that clients are waited for
pub serving_first : (a b c : Option (List ℕ)) (sessions : ℕ) (answer : Bool) → Appends a b (line (codes "listening"))
    → IsServing b c sessions answer → IsServed a c sessions answer
serving_first a b c sessions answer p q = record {
  ends = q.ends;
  printed = Appends-trans a b c _ _ p q.printed;
  count = q.count;
  numbered = q.numbered;
  clean = q.clean;
}

-- what follows where a call answered
pub where_ok : {T E P Q : Type 0} (r : Result T E) → (P → Q) → OnOk r P → OnOk r Q
where_ok (Ok value) follows p = follows p
where_ok (Err fault) follows p = p
