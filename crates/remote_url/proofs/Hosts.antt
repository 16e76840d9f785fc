-- A host and a port, read in one way.
use Rattle.std.proofs.Common.{refl, ◌≡◌, ◌≢◌, ℕ, List, [], ◌∷◌, ◌++◌, drop, slice_index, arith, inl, inr}
use Rattle.std.proofs.Common.{sym, ap, ◌∙◌, subst, append_assoc, append-nil}
use Rattle.remote_url.specs.Grammar.{Lacks, IsName, IsAddress, IsPort, Ports, WithPort, IsAuthority, is_name_byte, is_address_byte}
use Rattle.remote_url.proofs.Marks.{lacks_mid, first_split, all_lack}

-- a name has no colon and no bracket, and an address no closing one
name_lacks : (host : List ℕ) → IsName host → Lacks 58 host
name_lacks host is = all_lack is_name_byte 58 host refl is.1

address_lacks : (host : List ℕ) → IsAddress host → Lacks 93 host
address_lacks host is = all_lack is_address_byte 93 host refl is.1

-- a text with a colon, and one without, behind a name
with_colon : (default port : ℕ) (host text front digits : List ℕ) → IsName host → text ≡ front ++ (58 ∷ digits) → Lacks 58 front
    → WithPort default host text port → (front ≡ host) × IsPort digits port
with_colon default port host text front digits name cut lacks (after, is, inl none) =
    let same : front ++ (58 ∷ digits) ≡ host = sym cut ∙ is ∙ ap (λ xs. host ++ xs) none.0 ∙ append-nil host in
    absurd (lacks_mid 58 front digits (subst (Lacks 58) (sym same) (name_lacks host name)))
with_colon default port host text front digits name cut lacks (after, is, inr some) =
    let same : front ++ (58 ∷ digits) ≡ host ++ (58 ∷ some.0) = sym cut ∙ is ∙ ap (λ xs. host ++ xs) some.1 in
    let one = first_split 58 front digits host some.0 same lacks (name_lacks host name) in
    (one.0, subst (λ ds. IsPort ds port) (sym one.1) some.2)

without_colon : (default port : ℕ) (host text : List ℕ) → Lacks 58 text → WithPort default host text port → text ≡ host
without_colon default port host text lacks (after, is, inl none) = is ∙ ap (λ xs. host ++ xs) none.0 ∙ append-nil host
without_colon default port host text lacks (after, is, inr some) =
    absurd (lacks_mid 58 host some.0 (subst (Lacks 58) (is ∙ ap (λ xs. host ++ xs) some.1) lacks))

-- no host and port that were refused are there: by the name,
pub no_name : (default : ℕ) (text front digits : List ℕ) → text ≡ front ++ (58 ∷ digits) → Lacks 58 front → ¬ (IsName front)
    → (host : List ℕ) (port : ℕ) → IsName host → ¬ (WithPort default host text port)
no_name default text front digits cut lacks other host port name with =
    other (subst IsName (sym (with_colon default port host text front digits name cut lacks with).0) name)

-- by the port,
pub no_port : (default : ℕ) (text front digits : List ℕ) → text ≡ front ++ (58 ∷ digits) → Lacks 58 front
    → ((port : ℕ) → ¬ (IsPort digits port)) → (host : List ℕ) (port : ℕ) → IsName host → ¬ (WithPort default host text port)
no_port default text front digits cut lacks other host port name with =
    other port (with_colon default port host text front digits name cut lacks with).1

-- by a text that is no name
pub no_name_alone : (default : ℕ) (text : List ℕ) → Lacks 58 text → ¬ (IsName text)
    → (host : List ℕ) (port : ℕ) → IsName host → ¬ (WithPort default host text port)
no_name_alone default text lacks other host port name with =
    other (subst IsName (sym (without_colon default port host text lacks with)) name)

-- what stands behind an opening bracket is an address, a closing one and a port
behind_bracket : (host after rest text : List ℕ) → text ≡ 91 ∷ rest → text ≡ (91 ∷ (host ++ (93 ∷ []))) ++ after
    → rest ≡ host ++ (93 ∷ after)
behind_bracket host after rest text opened is = ap (drop 1) (sym opened ∙ is) ∙ append_assoc host (93 ∷ []) after

pub no_bracket : (default : ℕ) (text rest : List ℕ) → text ≡ 91 ∷ rest → Lacks 93 rest
    → (host : List ℕ) (port : ℕ) → IsAddress host → ¬ (WithPort default (91 ∷ (host ++ (93 ∷ []))) text port)
no_bracket default text rest opened lacks host port address (after, is, ports) =
    lacks_mid 93 host after (subst (Lacks 93) (behind_bracket host after rest text opened is) lacks)

in_brackets : (default port : ℕ) (text rest front after host : List ℕ) → text ≡ 91 ∷ rest → rest ≡ front ++ (93 ∷ after) → Lacks 93 front
    → IsAddress host → WithPort default (91 ∷ (host ++ (93 ∷ []))) text port → (front ≡ host) × Ports default after port
in_brackets default port text rest front after host opened cut lacks address (behind, is, ports) =
    let same = sym cut ∙ behind_bracket host behind rest text opened is in
    let one = first_split 93 front after host behind same lacks (address_lacks host address) in
    (one.0, subst (λ xs. Ports default xs port) (sym one.1) ports)

pub no_address : (default : ℕ) (text rest front after : List ℕ) → text ≡ 91 ∷ rest → rest ≡ front ++ (93 ∷ after) → Lacks 93 front
    → ¬ (IsAddress front) → (host : List ℕ) (port : ℕ) → IsAddress host → ¬ (WithPort default (91 ∷ (host ++ (93 ∷ []))) text port)
no_address default text rest front after opened cut lacks other host port address with =
    other (subst IsAddress (sym (in_brackets default port text rest front after host opened cut lacks address with).0) address)

pub no_port_behind : (default : ℕ) (text rest front after : List ℕ) → text ≡ 91 ∷ rest → rest ≡ front ++ (93 ∷ after) → Lacks 93 front
    → ((port : ℕ) → ¬ (Ports default after port))
    → (host : List ℕ) (port : ℕ) → IsAddress host → ¬ (WithPort default (91 ∷ (host ++ (93 ∷ []))) text port)
no_port_behind default text rest front after opened cut lacks other host port address with =
    other port (in_brackets default port text rest front after host opened cut lacks address with).1

-- a name and a port don't begin with a bracket
name_first : (default port : ℕ) (host text rest : List ℕ) → text ≡ 91 ∷ rest → IsName host → ¬ (WithPort default host text port)
name_first default port [] text rest opened name with = omega (arith, name.0)
name_first default port (h ∷ hs) text rest opened name (after, is, ports) =
    all_lack is_name_byte 91 (h ∷ hs) refl name.1 0 (omega arith) (ap (λ xs. slice_index xs 0) (sym is ∙ opened))

pub opened_none : (default : ℕ) (text rest : List ℕ) → text ≡ 91 ∷ rest
    → ((host : List ℕ) (port : ℕ) → IsAddress host → ¬ (WithPort default (91 ∷ (host ++ (93 ∷ []))) text port))
    → (host : List ℕ) (port : ℕ) → ¬ (IsAuthority default text host port)
opened_none default text rest opened other host port (inl is) = name_first default port host text rest opened is.0 is.1
opened_none default text rest opened other host port (inr is) = other host port is.0 is.1

pub unopened_none : (default : ℕ) (text : List ℕ) → ((rest : List ℕ) → text ≢ 91 ∷ rest)
    → ((host : List ℕ) (port : ℕ) → IsName host → ¬ (WithPort default host text port))
    → (host : List ℕ) (port : ℕ) → ¬ (IsAuthority default text host port)
unopened_none default text closed other host port (inl is) = other host port is.0 is.1
unopened_none default text closed other host port (inr (address, (after, is, ports))) = closed ((host ++ (93 ∷ [])) ++ after) is
