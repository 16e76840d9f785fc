-- A handshake, one message more at a time.
use Rattle.std.proofs.Common.{refl, ◌≡◌, ℕ, Option, None, Some, List, [], ◌∷◌, ◌++◌, subst, sym, ap, ◌∙◌, append-nil, inl, inr}
use Rattle.std.specs.List.{flat_map}
use Rattle.std.specs.Io.KnownBytes.{Consumes, Appends, Keeps}
use Rattle.std.proofs.KnownBytes.{Consumes-trans, Consumes-kept, Consumes-nil, Appends-nil, Appends-trans, Appends-kept}
use Rattle.std.proofs.lemmas.List.Concat.{flat_map-append}
use Rattle.remote_nbd.specs.declared.export.Export.{Export}
use Rattle.remote_nbd.specs.Messages.{go_request, name_request, go_reply}
use Rattle.remote_nbd.specs.Opening.{Greets, info_reply, export_in, known, Informs, Goes, Names, Opens, Asks}

-- before the first reply
pub informs_none : (a : Option (List ℕ)) → Informs a a None
informs_none a = record { infos = []; gave = Consumes-nil a; exports = refl }

-- one information more
pub informs_more : (a b c : Option (List ℕ)) (found after : Option Export) (kind : ℕ) (info : List ℕ) → Informs a b found
    → kind ≡ 3 → Consumes b c (go_reply kind info) → known after ≡ known found ++ export_in info → Informs a c after
informs_more a b c found after kind info before is now learned =
    let infos = before.infos in
    let this : Consumes b c (info_reply info) = subst (λ k. Consumes b c (go_reply k info)) is now in
    record {
      infos = infos ++ info ∷ [];
      gave = subst (Consumes a c)
          (ap (λ xs. flat_map info_reply infos ++ xs) (sym (append-nil (info_reply info)))
          ∙ sym (flat_map-append info_reply infos (info ∷ [])))
          (Consumes-trans a b c (flat_map info_reply infos) (info_reply info) before.gave this);
      exports = flat_map-append export_in infos (info ∷ [])
          ∙ ap (λ xs. flat_map export_in infos ++ xs) (append-nil (export_in info))
          ∙ ap (λ xs. xs ++ export_in info) before.exports ∙ sym learned;
    }

-- the reply that accepts,
pub goes : (a b c : Option (List ℕ)) (export : Export) → Informs a b (Some export) → Consumes b c (go_reply 1 []) → Goes a c (Some export)
goes a b c export before now =
    (before.infos, Consumes-trans a b c (flat_map info_reply before.infos) (go_reply 1 []) before.gave now, before.exports)

-- and the one that there is no GO
pub goes_not : (a b c : Option (List ℕ)) (found : Option Export) (kind : ℕ) (text : List ℕ) → Informs a b found
    → kind ≡ 0x80000001 → Consumes b c (go_reply kind text) → Goes a c None
goes_not a b c found kind text before is now =
    let this : Consumes b c (go_reply 0x80000001 text) = subst (λ k. Consumes b c (go_reply k text)) is now in
    (before.infos, text, Consumes-trans a b c (flat_map info_reply before.infos) (go_reply 0x80000001 text) before.gave this)

-- what came of GO, by its case
pub went_as : (a b : Option (List ℕ)) (r s : Option Export) → r ≡ s → Goes a b r → Goes a b s
went_as a b r s is went = subst (Goes a b) is went

-- a whole handshake by GO: the greeting, a request that reads nothing, and the replies,
pub opens_by_go : (a b c d : Option (List ℕ)) (export : Export) → Greets a b → Keeps b c → Goes c d (Some export) → Opens a d export
opens_by_go a b c d export hello kept went = record {
  greeting = hello.0;
  long = hello.2;
  magic = hello.3;
  infos = went.0;
  replied = inl (Consumes-trans a c d hello.0 _ (Consumes-kept a b c hello.0 hello.1 kept) went.1, went.2);
}

-- and one by EXPORT_NAME behind that
pub opens_by_name : (a b c d e : Option (List ℕ)) (export : Export) → Greets a b → Keeps b c → Goes c d None → Names d e export
    → Opens a e export
opens_by_name a b c d e export hello kept went named = record {
  greeting = hello.0;
  long = hello.2;
  magic = hello.3;
  infos = went.0;
  replied = inr (
    went.1,
    named.0,
    Consumes-trans a c e hello.0 _ (Consumes-kept a b c hello.0 hello.1 kept) (Consumes-trans c d e _ named.0 went.2 named.1),
    named.2,
    named.3,
    named.4,
  );
}

-- what was written before was not read
kept_then : (a b c : Option (List ℕ)) (bs : List ℕ) → Keeps a b → Appends b c bs → Appends a c bs
kept_then a b c bs kept now = Appends-trans a b c [] bs (Appends-kept a a b [] (Appends-nil a) kept) now

-- what was asked for, where the greeting and the replies write nothing: by GO,
pub asks_to_go : (a b c d : Option (List ℕ)) (flags : ℕ) (name : List ℕ) → Keeps a b → Appends b c (go_request flags name) → Keeps c d
    → Asks a d name
asks_to_go a b c d flags name before asked after =
    (flags, inl (kept_then a b d (go_request flags name) before (Appends-kept b c d (go_request flags name) asked after)))

-- and by EXPORT_NAME behind that
pub asks_by_name : (a b c d e : Option (List ℕ)) (flags : ℕ) (name : List ℕ) → Keeps a b → Appends b c (go_request flags name) → Keeps c d
    → Appends d e (name_request name) → Asks a e name
asks_by_name a b c d e flags name before asked after again =
    let first = kept_then a b d (go_request flags name) before (Appends-kept b c d (go_request flags name) asked after) in
    (flags, inr (Appends-trans a d e (go_request flags name) (name_request name) first again))

-- texts that were sent in three parts, and in two
pub sent_three : (a b c d : Option (List ℕ)) (front head name last : List ℕ) → front ≡ head
    → Appends a b front → Appends b c name → Appends c d last
    → Appends a d ((head ++ name) ++ last)
sent_three a b c d front head name last is one two three =
    Appends-trans a c d (head ++ name) last (Appends-trans a b c head name (subst (Appends a b) is one) two) three

pub sent_two : (a b c : Option (List ℕ)) (front head name : List ℕ) → front ≡ head → Appends a b front → Appends b c name
    → Appends a c (head ++ name)
sent_two a b c front head name is one two = Appends-trans a b c head name (subst (Appends a b) is one) two
