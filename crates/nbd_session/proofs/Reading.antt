-- The answer to a READ.
use Rattle.std.proofs.Common.{◌≡◌, ℕ, [], true, not, cond, eqb, ◌⊎◌, List, ◌++◌, inl, inr, refl, sym, ap, ◌∙◌, subst, append_assoc}
use Rattle.std.proofs.lemmas.Bool.{ne_eqb}
use Rattle.nbd_session.specs.declared.transmission.Request.{Request}
use Rattle.nbd_session.specs.Transmission.{Answer, Asks, Says, may_read, read_answer, request_answer, simple_reply}
use Rattle.nbd_session.specs.Talk.{Bytes, Refused}
use Rattle.nbd_session.specs.Export.{Costs, Facts, Failed, Lacked, Served, error_number}
use Rattle.nbd_session.specs.Conversation.{Answered, AppendsAnswer}
use Rattle.nbd_session.specs.declared.export.ExportFault.{ExportFault}
use Rattle.nbd_session.specs.declared.export.ExportFault.TheVariants.{Io, NoMemory}

-- an allowed READ that isn't empty asks for its range
pub read_asks : (size : ℕ) (r : Request) → true ≡ may_read size r → (r.len ≡ 0 → ⊥) → read_answer size r ≡ Asks r.offset r.len r.cookie
read_asks size r h n =
    ap (λ t. cond (not t) (Says (simple_reply 22 r.cookie)) (cond (eqb r.len 0) (Says (simple_reply 0 r.cookie))
    (Asks r.offset r.len r.cookie))) (sym h)
    ∙ ap (λ t. cond t (Says (simple_reply 0 r.cookie)) (Asks r.offset r.len r.cookie)) (ne_eqb r.len 0 n)

pub read_gives : (old new : Facts) (size : ℕ) (r : Request) (before mid after head bytes : List ℕ) → true ≡ may_read size r →
    (r.len ≡ 0 → ⊥)
    → mid ≡ before ++ head → head ≡ simple_reply 0 r.cookie → after ≡ mid ++ bytes → Served old new r.offset r.len bytes →
    Costs old new r.offset r.len
    → AppendsAnswer old new (read_answer size r) before after
read_gives old new size r before mid after head bytes h n em eh e s x =
    let P : Answer → Type 0 = λ a. Answered old new a (head ++ bytes) in (
      head ++ bytes,
      e ∙ ap (λ x. x ++ bytes) em ∙ append_assoc before head bytes,
      subst P (sym (read_asks size r h n)) (Bytes bytes, s, ap (λ x. x ++ bytes) eh, x),
    )

fault_verdict : (old new : Facts) (o l : ℕ) (fault : ExportFault) → (fault ≡ Io → Failed old new o l) →
    (fault ≡ NoMemory → Lacked old new o l) → ((error_number fault ≡ 12) × Lacked old new o l) ⊎
    ((error_number fault ≡ 5) × Failed old new o l)
fault_verdict old new o l Io h k = inr (refl, h refl)
fault_verdict old new o l NoMemory h k = inl (refl, k refl)

pub read_fails : (old new : Facts) (size error : ℕ) (r : Request) (before after head : List ℕ) (fault : ExportFault) →
    true ≡ may_read size r → (r.len ≡ 0 → ⊥)
    → after ≡ before ++ head → error ≡ error_number fault → head ≡ simple_reply error r.cookie
    → (fault ≡ Io → Failed old new r.offset r.len) → (fault ≡ NoMemory → Lacked old new r.offset r.len) → Costs old new r.offset r.len
    → AppendsAnswer old new (read_answer size r) before after
read_fails old new size error r before after head fault h n e ee eh f k x =
    let P : Answer → Type 0 = λ a. Answered old new a head in (
      head,
      e,
      subst P (sym (read_asks size r h n)) (
        Refused (error_number fault),
        fault_verdict old new r.offset r.len fault f k,
        eh
            ∙ ap (λ x. simple_reply x r.cookie) ee,
        x,
      ),
    )

-- DISC is without a reply
pub disc_says : (old new : Facts) (size : ℕ) (r request : Request) → r ≡ request → r.kind ≡ 2 → new.reads ≡ old.reads →
    Answered old new (request_answer size request) []
disc_says old new size r request e h x =
    let k : request.kind ≡ 2 = sym (ap (λ (x : Request). x.kind) e) ∙ h in
    rw k (refl, x)
