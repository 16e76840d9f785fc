-- A text that is a URL's begins as its scheme does.
use Rattle.std.proofs.Common.{◌≡◌, ◌⊎◌, ℕ, List, [], ◌∷◌, ◌++◌, inl, inr}
use Rattle.std.specs.Prelude.{codes}
use Rattle.std.specs.Borrow.{Bor}
use Rattle.remote_url.specs.Grammar.{HasScheme, Names}
use Rattle.remote_url.specs.declared.authority.Authority.{Authority}
use Rattle.remote_url.specs.declared.escaped.Escaped.{Escaped}
use Rattle.remote_url.specs.declared.source.Source.TheVariants.{Http, Nbd, NbdUnix}

pub of_http : (text : List ℕ) (server : Authority) (path : Bor (List ℕ)) → Names text (Http server path) → HasScheme text
of_http text server path named = (server.text.now ++ (47 ∷ path.now), inl named.0)

of_export : (text : List ℕ) (server : Authority) (name : Escaped)
    → (text ≡ codes "nbd://" ++ (server.text.now ++ (47 ∷ name.text.now)))
    ⊎ ((text ≡ codes "nbd://" ++ server.text.now) × (name.text.now ≡ []))
    → HasScheme text
of_export text server name (inl is) = (server.text.now ++ (47 ∷ name.text.now), inr (inl is))
of_export text server name (inr is) = (server.text.now, inr (inl is.0))

pub of_nbd : (text : List ℕ) (server : Authority) (name : Escaped) → Names text (Nbd server name) → HasScheme text
of_nbd text server name named = of_export text server name named.0

pub of_socket : (text : List ℕ) (socket name : Escaped) → Names text (NbdUnix socket name) → HasScheme text
of_socket text socket name named = (47 ∷ (name.text.now ++ (codes "?socket=" ++ socket.text.now)), inr (inr named.0))
