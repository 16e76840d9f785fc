-- A text that was refused begins as a scheme does, and names nothing.
use Rattle.std.proofs.Common.{refl, ◌≡◌, ◌≢◌, ◌⊎◌, ℕ, ◌<◌, List, ◌∷◌, ◌++◌, length, drop, slice_index, Result, Ok, Err, arith, inl, inr}
use Rattle.std.proofs.Common.{sym, ap, ◌∙◌, subst}
use Rattle.std.specs.Prelude.{codes, OnErr, IsTrue}
use Rattle.std.specs.List.{list_all}
use Rattle.remote_url.specs.declared.source.Source.{Source}
use Rattle.remote_url.specs.declared.source.Source.TheVariants.{Path, Http, Nbd, NbdUnix}
use Rattle.remote_url.specs.Grammar.{HasScheme, Names, NamesNone, Lacks, IsAuthority, is_path_byte, is_plain_byte}
use Rattle.remote_url.proofs.Marks.{lacks_mid, first_split, all_lack}

-- what holds anyway holds on an error
pub on_error : {T E : Type 0} (r : Result T E) (P : Type 0) → P → OnErr r P
on_error (Ok x) P holds = tt
on_error (Err e) P holds = holds

pub on_error_too : {T E : Type 0} (r : Result T E) (P Q : Type 0) → (P → Q) → OnErr r P → OnErr r Q
on_error_too (Ok x) P Q more holds = tt
on_error_too (Err e) P Q more holds = more holds

pub of_http : {T E : Type 0} (r : Result T E) (text rest : List ℕ) → text ≡ codes "http://" ++ rest → OnErr r (HasScheme text)
of_http r text rest is = on_error r (HasScheme text) (rest, inl is)

pub of_nbd : {T E : Type 0} (r : Result T E) (text rest : List ℕ) → text ≡ codes "nbd://" ++ rest → OnErr r (HasScheme text)
of_nbd r text rest is = on_error r (HasScheme text) (rest, inr (inl is))

pub of_unix : {T E : Type 0} (r : Result T E) (text rest : List ℕ) → text ≡ codes "nbd+unix://" ++ rest → OnErr r (HasScheme text)
of_unix r text rest is = on_error r (HasScheme text) (rest, inr (inr is))

-- two texts with other bytes at an index are two
other_byte : (i : ℕ) (xs ys : List ℕ) → slice_index xs i < slice_index ys i → xs ≢ ys
other_byte i xs ys less same = omega (arith, less, ap (λ ns. slice_index ns i) same)

other_byte_too : (i : ℕ) (xs ys : List ℕ) → slice_index ys i < slice_index xs i → xs ≢ ys
other_byte_too i xs ys less same = omega (arith, less, ap (λ ns. slice_index ns i) same)

-- ---- http

pub record HttpParts (rest : List ℕ) : Type 0 where
  pub server : List ℕ
  pub host : List ℕ
  pub port : ℕ
  pub path : List ℕ
  pub cut : rest ≡ server ++ (47 ∷ path)
  pub ends : Lacks 47 server
  pub authority : IsAuthority 80 server host port
  pub may : IsTrue (list_all is_path_byte path)

http_parts : (rest : List ℕ) (s : Source) → Names (codes "http://" ++ rest) s → HttpParts rest
http_parts rest (Path p) n = absurd (n.1 (rest, inl refl))
http_parts rest (Http server path) n = record {
  server = server.text.now;
  host = server.host.now;
  port = server.port;
  path = path.now;
  cut = ap (drop 7) n.0;
  ends = n.1;
  authority = n.2;
  may = n.3;
}
http_parts rest (Nbd server name) n = elim n.0 [
  | inl is ↦ absurd (other_byte 0 (codes "http://" ++ rest) (codes "nbd://" ++ (server.text.now ++ (47 ∷ name.text.now))) (omega arith) is)
  | inr is ↦ absurd (other_byte 0 (codes "http://" ++ rest) (codes "nbd://" ++ server.text.now) (omega arith) is.0)
]
http_parts rest (NbdUnix socket name) n =
    absurd (other_byte 0 (codes "http://" ++ rest)
    (codes "nbd+unix:///" ++ (name.text.now ++ (codes "?socket=" ++ socket.text.now))) (omega arith) n.0)

pub http_no_slash : (rest : List ℕ) → Lacks 47 rest → NamesNone (codes "http://" ++ rest)
http_no_slash rest lacks = λ s n.
    let parts = http_parts rest s n in
    lacks_mid 47 parts.server parts.path (subst (Lacks 47) parts.cut lacks)

pub http_no_server : (rest server path : List ℕ) → rest ≡ server ++ (47 ∷ path) → Lacks 47 server
    → ((host : List ℕ) (port : ℕ) → ¬ (IsAuthority 80 server host port)) → NamesNone (codes "http://" ++ rest)
http_no_server rest server path cut ends other = λ s n.
    let parts = http_parts rest s n in
    let same = first_split 47 server path parts.server parts.path (sym cut ∙ parts.cut) ends parts.ends in
    other parts.host parts.port (subst (λ a. IsAuthority 80 a parts.host parts.port) (sym same.0) parts.authority)

pub http_no_path : (rest server path : List ℕ) → rest ≡ server ++ (47 ∷ path) → Lacks 47 server
    → ¬ (IsTrue (list_all is_path_byte path)) → NamesNone (codes "http://" ++ rest)
http_no_path rest server path cut ends other = λ s n.
    let parts = http_parts rest s n in
    let same = first_split 47 server path parts.server parts.path (sym cut ∙ parts.cut) ends parts.ends in
    other (subst (λ p. IsTrue (list_all is_path_byte p)) (sym same.1) parts.may)

-- ---- nbd

pub record NbdParts (rest : List ℕ) : Type 0 where
  pub server : List ℕ
  pub host : List ℕ
  pub port : ℕ
  pub name : List ℕ
  pub cut : (rest ≡ server ++ (47 ∷ name)) ⊎ (rest ≡ server)
  pub ends : Lacks 47 server
  pub authority : IsAuthority 10809 server host port
  pub may : IsTrue (list_all is_plain_byte name)

nbd_parts : (rest : List ℕ) (s : Source) → Names (codes "nbd://" ++ rest) s → NbdParts rest
nbd_parts rest (Path p) n = absurd (n.1 (rest, inr (inl refl)))
nbd_parts rest (Http server path) n =
    absurd (other_byte_too 0 (codes "nbd://" ++ rest) (codes "http://" ++ (server.text.now ++ (47 ∷ path.now))) (omega arith) n.0)
nbd_parts rest (Nbd server name) n = record {
  server = server.text.now;
  host = server.host.now;
  port = server.port;
  name = name.text.now;
  cut = elim n.0 [ inl is ↦ inl (ap (drop 6) is) | inr is ↦ inr (ap (drop 6) is.0) ];
  ends = n.1;
  authority = n.2;
  may = n.3;
}
nbd_parts rest (NbdUnix socket name) n =
    absurd (other_byte_too 3 (codes "nbd://" ++ rest)
    (codes "nbd+unix:///" ++ (name.text.now ++ (codes "?socket=" ++ socket.text.now))) (omega arith) n.0)

-- the server and the name, where there is a slash
nbd_slash : (rest server name : List ℕ) → rest ≡ server ++ (47 ∷ name) → Lacks 47 server → (parts : NbdParts rest)
    → (server ≡ parts.server) × (name ≡ parts.name)
nbd_slash rest server name cut ends parts = elim parts.cut [
  | inl is ↦ first_split 47 server name parts.server parts.name (sym cut ∙ is) ends parts.ends
  | inr is ↦ absurd (lacks_mid 47 server name (subst (Lacks 47) (sym is ∙ cut) parts.ends))
]

pub nbd_no_server : (rest server name : List ℕ) → rest ≡ server ++ (47 ∷ name) → Lacks 47 server
    → ((host : List ℕ) (port : ℕ) → ¬ (IsAuthority 10809 server host port)) → NamesNone (codes "nbd://" ++ rest)
nbd_no_server rest server name cut ends other = λ s n.
    let parts = nbd_parts rest s n in
    let same = nbd_slash rest server name cut ends parts in
    other parts.host parts.port (subst (λ a. IsAuthority 10809 a parts.host parts.port) (sym same.0) parts.authority)

pub nbd_no_name : (rest server name : List ℕ) → rest ≡ server ++ (47 ∷ name) → Lacks 47 server
    → ¬ (IsTrue (list_all is_plain_byte name)) → NamesNone (codes "nbd://" ++ rest)
nbd_no_name rest server name cut ends other = λ s n.
    let parts = nbd_parts rest s n in
    let same = nbd_slash rest server name cut ends parts in
    other (subst (λ p. IsTrue (list_all is_plain_byte p)) (sym same.1) parts.may)

pub nbd_no_server_alone : (rest : List ℕ) → Lacks 47 rest
    → ((host : List ℕ) (port : ℕ) → ¬ (IsAuthority 10809 rest host port)) → NamesNone (codes "nbd://" ++ rest)
nbd_no_server_alone rest lacks other = λ s n.
    let parts = nbd_parts rest s n in
    elim parts.cut [
      | inl is ↦ lacks_mid 47 parts.server parts.name (subst (Lacks 47) is lacks)
      | inr is ↦ other parts.host parts.port (subst (λ a. IsAuthority 10809 a parts.host parts.port) (sym is) parts.authority)
    ]

-- ---- nbd+unix

pub no_root : (rest : List ℕ) → ((more : List ℕ) → rest ≢ 47 ∷ more) → NamesNone (codes "nbd+unix://" ++ rest)
no_root rest other (Path p) n = n.1 (rest, inr (inr refl))
no_root rest other (Http server path) n =
    other_byte_too 0 (codes "nbd+unix://" ++ rest) (codes "http://" ++ (server.text.now ++ (47 ∷ path.now))) (omega arith) n.0
no_root rest other (Nbd server name) n = elim n.0 [
  | inl is ↦ other_byte 3 (codes "nbd+unix://" ++ rest) (codes "nbd://" ++ (server.text.now ++ (47 ∷ name.text.now))) (omega arith) is
  | inr is ↦ other_byte 3 (codes "nbd+unix://" ++ rest) (codes "nbd://" ++ server.text.now) (omega arith) is.0
]
no_root rest other (NbdUnix socket name) n = other (name.text.now ++ (codes "?socket=" ++ socket.text.now)) (ap (drop 11) n.0)

pub record SocketParts (rest : List ℕ) : Type 0 where
  pub name : List ℕ
  pub socket : List ℕ
  pub cut : rest ≡ name ++ (63 ∷ (codes "socket=" ++ socket))
  pub name_may : IsTrue (list_all is_plain_byte name)
  pub socket_may : IsTrue (list_all is_plain_byte socket)
  pub some : 0 < length socket

socket_parts : (rest : List ℕ) (s : Source) → Names (codes "nbd+unix:///" ++ rest) s → SocketParts rest
socket_parts rest (Path p) n = absurd (n.1 (47 ∷ rest, inr (inr refl)))
socket_parts rest (Http server path) n =
    absurd (other_byte_too 0 (codes "nbd+unix:///" ++ rest) (codes "http://" ++ (server.text.now ++ (47 ∷ path.now))) (omega arith) n.0)
socket_parts rest (Nbd server name) n = elim n.0 [
  | inl is ↦ absurd (other_byte 3 (codes "nbd+unix:///" ++ rest)
      (codes "nbd://" ++ (server.text.now ++ (47 ∷ name.text.now))) (omega arith) is)
  | inr is ↦ absurd (other_byte 3 (codes "nbd+unix:///" ++ rest) (codes "nbd://" ++ server.text.now) (omega arith) is.0)
]
socket_parts rest (NbdUnix socket name) n = record {
  name = name.text.now;
  socket = socket.text.now;
  cut = ap (drop 12) n.0;
  name_may = n.1;
  socket_may = n.2;
  some = n.3;
}

pub no_query : (rest : List ℕ) → Lacks 63 rest → NamesNone (codes "nbd+unix:///" ++ rest)
no_query rest lacks = λ s n.
    let parts = socket_parts rest s n in
    lacks_mid 63 parts.name (codes "socket=" ++ parts.socket) (subst (Lacks 63) parts.cut lacks)

-- the name and the query
query_same : (rest name query : List ℕ) → rest ≡ name ++ (63 ∷ query) → Lacks 63 name → (parts : SocketParts rest)
    → (name ≡ parts.name) × (query ≡ codes "socket=" ++ parts.socket)
query_same rest name query cut ends parts =
    first_split 63 name query parts.name (codes "socket=" ++ parts.socket) (sym cut ∙ parts.cut) ends
    (all_lack is_plain_byte 63 parts.name refl parts.name_may)

pub other_query : (rest name query : List ℕ) → rest ≡ name ++ (63 ∷ query) → Lacks 63 name
    → ((more : List ℕ) → query ≢ codes "socket=" ++ more) → NamesNone (codes "nbd+unix:///" ++ rest)
other_query rest name query cut ends other = λ s n.
    let parts = socket_parts rest s n in
    other parts.socket (query_same rest name query cut ends parts).1

pub no_plain_name : (rest name query : List ℕ) → rest ≡ name ++ (63 ∷ query) → Lacks 63 name
    → ¬ (IsTrue (list_all is_plain_byte name)) → NamesNone (codes "nbd+unix:///" ++ rest)
no_plain_name rest name query cut ends other = λ s n.
    let parts = socket_parts rest s n in
    other (subst (λ p. IsTrue (list_all is_plain_byte p)) (sym (query_same rest name query cut ends parts).0) parts.name_may)

-- the socket's path
socket_same : (rest name query socket : List ℕ) → rest ≡ name ++ (63 ∷ query) → Lacks 63 name → query ≡ codes "socket=" ++ socket
    → (parts : SocketParts rest) → socket ≡ parts.socket
socket_same rest name query socket cut ends is parts = ap (drop 7) (sym is ∙ (query_same rest name query cut ends parts).1)

pub no_socket : (rest name query socket : List ℕ) → rest ≡ name ++ (63 ∷ query) → Lacks 63 name → query ≡ codes "socket=" ++ socket
    → length socket ≡ 0 → NamesNone (codes "nbd+unix:///" ++ rest)
no_socket rest name query socket cut ends is none = λ s n.
    let parts = socket_parts rest s n in
    omega (arith, parts.some, none, ap length (socket_same rest name query socket cut ends is parts))

pub no_plain_socket : (rest name query socket : List ℕ) → rest ≡ name ++ (63 ∷ query) → Lacks 63 name
    → query ≡ codes "socket=" ++ socket → ¬ (IsTrue (list_all is_plain_byte socket)) → NamesNone (codes "nbd+unix:///" ++ rest)
no_plain_socket rest name query socket cut ends is other = λ s n.
    let parts = socket_parts rest s n in
    other (subst (λ p. IsTrue (list_all is_plain_byte p)) (sym (socket_same rest name query socket cut ends is parts)) parts.socket_may)
