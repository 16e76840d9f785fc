-- What a stop leaves while a head is written, a gate is opened or closed, and while a plan's changes are made.
use Rattle.std.proofs.Common.{◌≡◌, ◌≢◌, ◌⊎◌, inl, inr, ⊎_elim, refl, ℕ, ◌+◌, ◌-◌, ◌<◌, ◌≤◌, ◌^◌, List, [], ◌∷◌, ◌++◌, length, get_or, take}
use Rattle.std.proofs.Common.{drop, Option, None, Some, sym, ap, ◌∙◌, subst, arith}
use Rattle.std.proofs.lemmas.Bool.{cases_eq}
use Rattle.std.proofs.lemmas.Bool.Decides.{nat_tests}
use Rattle.std.proofs.lemmas.List.{length-append, take_all}
use Rattle.verity_store.specs.RawFile.{overwritten}
use Rattle.verity_disks.specs.declared.disks.Device.TheVariants.{Data, Hash, Journal}
use Rattle.verity_disks.specs.Disks.{Contents, put, Torn, Reached, IsDurable}
use Rattle.verity_journal.specs.Plan.{Plan, IsSide, IsSmall, Amid, made}
use Rattle.verity_journal.specs.Journal.{spelled, read_plan, head, gated_plan, plan_of, Pair, made_pair, under, recovered, pair_of}
use Rattle.verity_journal.specs.Journal.{recovered_pair, IsBegun, IsClosed}
use Rattle.verity_journal.specs.Journal.{IsGated, IsOpen, IsReady, IsSettled, IsNamed, IsOldOrNew, IsNew, Suits}
use Rattle.verity_journal.proofs.Format.{read_plan-spelled}
use Rattle.verity_journal.proofs.Heads.{opened_behind, few_none, split_closed, split_gated}
use Rattle.verity_journal.proofs.Parses.{plan_fits}
use Rattle.verity_journal.proofs.Made.{made_same, made_again, amid_made, amid_self}

pub is_none : (gate : ℕ) (rest : List ℕ) → gate ≡ 0 → plan_of (head ++ gate ∷ rest) ≡ None
is_none gate rest shut = ap (λ (n : ℕ). plan_of (head ++ n ∷ rest)) shut

pub gated_is_plan : (gate : ℕ) (rest : List ℕ) → gate ≢ 0 → gated_plan (gate ∷ rest) ≡ read_plan rest
gated_is_plan gate rest opened = grind (arith, nat_tests)

pub is_plan : (gate : ℕ) (rest : List ℕ) → gate ≢ 0 → plan_of (head ++ gate ∷ rest) ≡ read_plan rest
is_plan gate rest opened = gated_is_plan gate rest opened

pub closed_is_old : (journal : List ℕ) (pair : Pair) → IsClosed journal → recovered journal pair ≡ pair
closed_is_old journal pair (rest, is) = ap (λ (j : List ℕ). recovered j pair) is
    ∙ ap (λ (o : Option Plan). under o pair) (is_none 0 rest refl)

pub open_is_new : (plan : Plan) (journal : List ℕ) (pair : Pair) → IsOpen plan journal → recovered journal pair ≡ made_pair plan pair
open_is_new plan journal pair (gate, rest, is, reads, opened) = ap (λ (j : List ℕ). recovered j pair) is
    ∙ ap (λ (o : Option Plan). under o pair) (is_plan gate rest opened ∙ reads)

gated_is_one : (plan : Plan) (journal : List ℕ) (pair : Pair) → IsGated plan journal → (recovered journal pair ≡ pair) ⊎
    (recovered journal pair ≡ made_pair plan pair)
gated_is_one plan journal pair (gate, rest, is, reads) =
    ⊎_elim
    (λ shut. inl (ap (λ (j : List ℕ). recovered j pair) is ∙ ap (λ (o : Option Plan). under o pair) (is_none gate rest shut)))
    (λ opened. inr (open_is_new plan journal pair (gate, rest, is, reads, opened)))
    (cases_eq gate 0)

none_some : (p : Plan) → ◌≡◌ {A = Option Plan} None (Some p) → ⊥
none_some p e = cc

abbrev names_of : Option Plan → List ℕ
names_of None = []
names_of (Some plan) = plan.names

-- behind a closed gate there is no plan
closed_named : (names journal : List ℕ) → IsClosed journal → (p : Plan) → plan_of journal ≡ Some p → p.names ≡ names
closed_named names journal (rest, is) p e = absurd (none_some p (sym (ap plan_of is ∙ is_none 0 rest refl) ∙ e))

-- behind an open one there is this plan alone
gated_named : (plan : Plan) (journal : List ℕ) → IsGated plan journal → (p : Plan) → plan_of journal ≡ Some p → p.names ≡ plan.names
gated_named plan journal (gate, rest, is, reads) p e =
    ⊎_elim
    (λ shut. absurd (none_some p (sym (ap plan_of is ∙ is_none gate rest shut) ∙ e)))
    (λ opened. ap names_of (sym e ∙ ap plan_of is ∙ is_plan gate rest opened ∙ reads))
    (cases_eq gate 0)

-- three devices have the names that their journal has
named_by : (names journal : List ℕ) (c : Contents) → c Journal ≡ journal → ((p : Plan) → plan_of journal ≡ Some p → p.names ≡ names) →
    IsNamed names c
named_by names journal c is named p e = named p (sym (ap plan_of is) ∙ e)

open_gated : (plan : Plan) (journal : List ℕ) → IsOpen plan journal → IsGated plan journal
open_gated plan journal (gate, rest, is, reads, opened) = (gate, rest, is, reads)

-- a write behind the gate leaves it closed
torn_closed : (n : ℕ) (old new : List ℕ) → IsClosed old → Torn 13 n old new → IsClosed new
torn_closed n old new (rest, is) torn = split_closed new (torn.before ∙ ap (λ (l : List ℕ). take 13 l) is)

-- a write of the gate leaves what stands behind it
torn_gated : (plan : Plan) (old new : List ℕ) → IsGated plan old → Torn 12 1 old new → IsGated plan new
torn_gated plan old new (gate, rest, is, reads) torn =
    let there = split_gated new (omega (arith, torn.no_shorter, ap length is)) (torn.before ∙ ap (λ (l : List ℕ). take 12 l) is) in
    (there.0, drop 13 new, there.1, ap read_plan (torn.after ∙ ap (λ (l : List ℕ). drop 13 l) is) ∙ reads)

pub staged : (plan : Plan) (bytes journal : List ℕ) → IsSide plan.on_data → IsSide plan.on_hash → IsSmall plan.on_data →
    IsSmall plan.on_hash → length plan.names < 2 ^ 64 → bytes ≡ spelled plan → IsClosed journal →
    IsGated plan (overwritten 13 bytes journal)
staged plan bytes journal d h sd sh sn same (rest, is) =
    let tail = drop (13 + length bytes) journal in
    (0, spelled plan ++ tail, (λ i. take 13 (is i) ++ (same i ++ tail)), read_plan-spelled plan d h sd sh sn tail)

pub gate_written : (plan : Plan) (gate : ℕ) (journal : List ℕ) → IsGated plan journal → (rest : List ℕ) ×
    (overwritten 12 (gate ∷ []) journal ≡ head ++ gate ∷ rest) × (read_plan rest ≡ Some plan)
gate_written plan gate journal (old, rest, is, reads) = (rest, ap (λ (l : List ℕ). take 12 l ++ gate ∷ drop 13 l) is, reads)

pair_same : (seen : Contents) (may_leave : Contents → Type 0) → IsDurable seen may_leave → (d : Contents) → may_leave d →
    pair_of d ≡ pair_of seen
pair_same seen may_leave durable d was = λ i. (durable Data d was i, durable Hash d was i)

-- while a plan is written, the volume is as it was
pub behind_is_old : (plan : Plan) (seen : Contents) (may_leave : Contents → Type 0) (n : ℕ) → IsSettled seen may_leave → (c : Contents) →
    Reached Journal (Torn 13 n) may_leave c → IsOldOrNew plan (pair_of seen) c
behind_is_old plan seen may_leave n settled c (d, was, b, step, is) =
    let shut : IsClosed (d Journal) = (settled.closed.0, settled.durable Journal d was ∙ settled.closed.1) in
    let still = torn_closed n (d Journal) b shut step in
    record {
      volume = inl (ap recovered_pair is ∙ closed_is_old b (pair_of d) still ∙ pair_same seen may_leave settled.durable d was);
      named = named_by plan.names b c (ap (λ (f : Contents). f Journal) is) (closed_named plan.names b still);
    }

-- while its gate is opened or closed, it is as it stands or as the plan makes it
pub gate_is_one : (plan : Plan) (seen : Contents) (may_leave : Contents → Type 0) → IsDurable seen may_leave → IsGated plan (seen Journal)
    → (c : Contents) → Reached Journal (Torn 12 1) may_leave c → IsOldOrNew plan (pair_of seen) c
gate_is_one plan seen may_leave durable gated c (d, was, b, step, is) =
    let there : IsGated plan (d Journal) = (gated.0, gated.1, durable Journal d was ∙ gated.2, gated.3) in
    let same = pair_same seen may_leave durable d was in
    let still = torn_gated plan (d Journal) b there step in
    record {
      volume = ⊎_elim
          (λ stays. inl (ap recovered_pair is ∙ stays ∙ same))
          (λ new. inr (ap recovered_pair is ∙ new ∙ ap (λ (p : Pair). made_pair plan p) same))
          (gated_is_one plan b (pair_of d) still);
      named = named_by plan.names b c (ap (λ (f : Contents). f Journal) is) (gated_named plan b still);
    }

-- under an open gate, whatever lies amid the changes of both devices stands for the new volume
amid_is_new : (plan : Plan) (base : Pair) → Suits plan base → (journal x y : List ℕ) → IsOpen plan journal →
    Amid plan.on_data base.0 x → Amid plan.on_hash base.1 y → recovered journal (x, y) ≡ made_pair plan base
amid_is_new plan base suits journal x y opened on_data on_hash =
    open_is_new plan journal (x, y) opened
    ∙ (λ i. (
      made_same plan.on_data suits.on_data base.0 x suits.data_kept on_data i,
      made_same plan.on_hash suits.on_hash base.1 y suits.hash_kept on_hash i,
    ))

pub data_is_new : (plan : Plan) (seen : Contents) (may_leave : Contents → Type 0) → IsReady plan seen may_leave → Suits plan (pair_of seen)
    → (c : Contents) → Reached Data (Amid plan.on_data) may_leave c → IsNew plan (pair_of seen) c
data_is_new plan seen may_leave ready suits c (d, was, b, step, is) =
    let opened : IsOpen plan (d Journal) = (
      ready.opened.0,
      ready.opened.1,
      ready.durable Journal d was ∙ ready.opened.2,
      ready.opened.3,
      ready.opened.4,
    ) in
    let on_data : Amid plan.on_data (seen Data) b = subst (λ (l : List ℕ). Amid plan.on_data l b) (ready.durable Data d was) step in
    let on_hash : Amid plan.on_hash (seen Hash) (d Hash) =
    subst (λ (l : List ℕ). Amid plan.on_hash l (d Hash)) (ready.durable Hash d was) (amid_self plan.on_hash (d Hash)) in
    record {
      volume = ap recovered_pair is ∙ amid_is_new plan (pair_of seen) suits (d Journal) b (d Hash) opened on_data on_hash;
      named = named_by plan.names (d Journal) c (ap (λ (f : Contents). f Journal) is)
          (gated_named plan (d Journal) (open_gated plan (d Journal) opened));
    }

module _ (plan : Plan) (seen one : Contents) (may_leave : Contents → Type 0) (suits : Suits plan (pair_of seen))
    (opened : IsOpen plan (seen Journal))
    (durable : IsDurable one may_leave) (data_made : one ≡ put Data (made plan.on_data (seen Data)) seen) where
  pub hash_is_new : (c : Contents) → Reached Hash (Amid plan.on_hash) may_leave c → IsNew plan (pair_of seen) c
  hash_is_new c (d, was, b, step, is) =
      let journal : d Journal ≡ seen Journal = durable Journal d was ∙ ap (λ (f : Contents). f Journal) data_made in
      let data_is : d Data ≡ made plan.on_data (seen Data) = durable Data d was ∙ ap (λ (f : Contents). f Data) data_made in
      let hash_is : d Hash ≡ seen Hash = durable Hash d was ∙ ap (λ (f : Contents). f Hash) data_made in
      let on_data : Amid plan.on_data (seen Data) (d Data) =
      subst (λ (l : List ℕ). Amid plan.on_data (seen Data) l) (sym data_is) (amid_made plan.on_data suits.on_data (seen Data)) in
      let on_hash : Amid plan.on_hash (seen Hash) b = subst (λ (l : List ℕ). Amid plan.on_hash l b) hash_is step in
      let there : IsOpen plan (d Journal) = (opened.0, opened.1, journal ∙ opened.2, opened.3, opened.4) in
      record {
        volume = ap recovered_pair is ∙ amid_is_new plan (pair_of seen) suits (d Journal) (d Data) b there on_data on_hash;
        named = named_by plan.names (d Journal) c (ap (λ (f : Contents). f Journal) is)
            (gated_named plan (d Journal) (open_gated plan (d Journal) there));
      }

module _ (plan : Plan) (seen one two : Contents) (may_leave : Contents → Type 0) (suits : Suits plan (pair_of seen))
    (opened : IsOpen plan (seen Journal))
    (durable : IsDurable two may_leave) (data_made : one ≡ put Data (made plan.on_data (seen Data)) seen)
    (hash_made : two ≡ put Hash (made plan.on_hash (one Hash)) one) where
  pub pair_is_new : pair_of two ≡ made_pair plan (pair_of seen)
  pair_is_new = λ i. (
    (ap (λ (f : Contents). f Data) hash_made ∙ ap (λ (f : Contents). f Data) data_made) i,
    (ap (λ (f : Contents). f Hash) hash_made ∙ ap (λ (f : Contents). made plan.on_hash (f Hash)) data_made) i,
  )

  pub still_open : IsOpen plan (two Journal)
  still_open = (
    opened.0,
    opened.1,
    ap (λ (f : Contents). f Journal) hash_made ∙ ap (λ (f : Contents). f Journal) data_made
        ∙ opened.2,
    opened.3,
    opened.4,
  )

  pub still_gated : IsGated plan (two Journal)
  still_gated = (still_open.0, still_open.1, still_open.2, still_open.3)

  again : made_pair plan (made_pair plan (pair_of seen)) ≡ made_pair plan (pair_of seen)
  again = λ i. (
    made_again plan.on_data suits.on_data (seen Data) suits.data_kept i,
    made_again plan.on_hash suits.on_hash (seen Hash) suits.hash_kept i,
  )

  pub close_is_new : (c : Contents) → Reached Journal (Torn 12 1) may_leave c → IsNew plan (pair_of seen) c
  close_is_new c reached =
      let one_of = gate_is_one plan two may_leave durable still_gated c reached in
      record {
        volume = ⊎_elim (λ stays. stays ∙ pair_is_new) (λ new. new ∙ ap (λ (p : Pair). made_pair plan p) pair_is_new ∙ again)
            one_of.volume;
        named = one_of.named;
      }

-- where a plan is read behind an open gate
pub opened_is : (gated : List ℕ) (o : Option Plan) → 1 ≤ length gated → get_or gated 0 0 ≢ 0 →
    read_plan (take (length gated - 1) (drop 1 gated)) ≡ o → gated_plan gated ≡ o
opened_is [] o long opened reads = absurd (omega arith)
opened_is (gate ∷ rest) o long opened reads = gated_is_plan gate rest opened
    ∙ sym (ap read_plan (take_all (length (gate ∷ rest) - 1) rest (omega arith))) ∙ reads

-- a plan stands behind an open gate alone
pub plan_is_open : (journal : List ℕ) (plan : Plan) → plan_of journal ≡ Some plan → IsOpen plan journal
plan_is_open journal plan e =
    let there = opened_behind journal plan e in
    ⊎_elim
    (λ shut. absurd (none_some plan (sym (is_none there.0 there.1 shut) ∙ sym (ap plan_of there.2) ∙ e)))
    (λ opened. (there.0, there.1, there.2, sym (is_plan there.0 there.1 opened) ∙ sym (ap plan_of there.2) ∙ e, opened))
    (cases_eq there.0 0)

-- a head and a closed gate are written over no more than a beginning of a head
pub closes : (journal : List ℕ) → (rest : List ℕ) × (overwritten 0 (head ++ 0 ∷ []) journal ≡ head ++ 0 ∷ rest)
closes journal = (drop 13 journal, refl)

pub shutting : (seen : Contents) (may_leave : Contents → Type 0) → IsDurable seen may_leave → plan_of (seen Journal) ≡ None →
    IsBegun (seen Journal) → (c : Contents) → Reached Journal (Torn 0 13) may_leave c → recovered_pair c ≡ recovered_pair seen
shutting seen may_leave durable none (rest, begun) c (d, was, b, step, is) =
    let torn : Torn 0 13 (seen Journal) b = subst (λ (l : List ℕ). Torn 0 13 l b) (durable Journal d was) step in
    let few : length b ≤ 13 = omega (arith, torn.no_longer, ap length begun, length-append (seen Journal) rest) in
    ap recovered_pair is ∙ ap (λ (o : Option Plan). under o (pair_of d)) (few_none b few) ∙ pair_same seen may_leave durable d was
    ∙ sym (ap (λ (o : Option Plan). under o (pair_of seen)) none)

module _ (plan : Plan) (seen : Contents) (may_leave : Contents → Type 0) (durable : IsDurable seen may_leave)
    (reads : plan_of (seen Journal) ≡ Some plan)
    (data_kept : plan.on_data.keep ≤ length (seen Data)) (hash_kept : plan.on_hash.keep ≤ length (seen Hash)) where
  pub is_ready : IsReady plan seen may_leave
  is_ready = record { durable = durable; opened = plan_is_open (seen Journal) plan reads }

  pub does_suit : Suits plan (pair_of seen)
  does_suit =
      let opened = plan_is_open (seen Journal) plan reads in
      let fits = plan_fits opened.1 plan opened.3 in
      record { on_data = fits.0; on_hash = fits.1; data_kept = data_kept; hash_kept = hash_kept }

  pub is_volume : made_pair plan (pair_of seen) ≡ recovered_pair seen
  is_volume = sym (open_is_new plan (seen Journal) (pair_of seen) (plan_is_open (seen Journal) plan reads))

-- what is on the devices stands for the volume that is read
pub same_volume : (seen : Contents) (may_leave : Contents → Type 0) → IsDurable seen may_leave → (c : Contents) → may_leave c →
    recovered_pair c ≡ recovered_pair seen
same_volume seen may_leave durable c left = λ i. recovered (durable Journal c left i) (durable Data c left i, durable Hash c left i)
