-- Which texts name a server, and which a path.
use Rattle.std.specs.Prelude.{◌≡◌, ◌≢◌, ◌⊎◌, ℕ, ◌<◌, ◌^◌, Bool, ◌==◌, ◌||◌}
use Rattle.std.specs.Prelude.{◌&&◌, not, IsTrue, List, [], ◌∷◌, ◌++◌, length, slice_index, codes}
use Rattle.std.specs.List.{list_all}
use Rattle.std.specs.Char.{is_ascii_alphanumeric, is_ascii_graphic, is_ascii_hexdigit}
use Rattle.std.specs.Str.Parse.{IsNumeral, digits_value}
use Rattle.remote_url.specs.declared.source.Source.{Source}
use Rattle.remote_url.specs.declared.source.Source.TheVariants.{Path, Http, Nbd, NbdUnix}

-- a byte of a host's name or of an IPv4 address: a letter, a digit, or one of -._
abbrev pub is_name_byte : ℕ → Bool
is_name_byte b = is_ascii_alphanumeric b || b == 45 || b == 46 || b == 95

-- a byte of an IPv6 address: a hexadecimal digit, a colon or a dot
abbrev pub is_address_byte : ℕ → Bool
is_address_byte b = is_ascii_hexdigit b || b == 58 || b == 46

abbrev pub IsName : List ℕ → Type 0
IsName host = (0 < length host) × IsTrue (list_all is_name_byte host)

abbrev pub IsAddress : List ℕ → Type 0
IsAddress host = (0 < length host) × IsTrue (list_all is_address_byte host)

-- the byte isn't in the text
abbrev pub Lacks : ℕ → List ℕ → Type 0
Lacks c text = (i : ℕ) → i < length text → slice_index text i ≢ c

-- decimal digits, of a number up to 65535
abbrev pub IsPort : List ℕ → ℕ → Type 0
IsPort digits port = IsNumeral 10 digits × (digits_value 10 digits < 2 ^ 16) × (port ≡ digits_value 10 digits)

-- [:PORT]
abbrev pub Ports : (default : ℕ) (text : List ℕ) (port : ℕ) → Type 0
Ports default text port = ((text ≡ []) × (port ≡ default)) ⊎ ((digits : List ℕ) × (text ≡ 58 ∷ digits) × IsPort digits port)

-- the same behind a text
abbrev pub WithPort : (default : ℕ) (host text : List ℕ) (port : ℕ) → Type 0
WithPort default host text port = (after : List ℕ) × (text ≡ host ++ after) × Ports default after port

-- HOST[:PORT], where HOST is a name, or an address in brackets
abbrev pub IsAuthority : (default : ℕ) (text host : List ℕ) (port : ℕ) → Type 0
IsAuthority default text host port = (IsName host × WithPort default host text port)
    ⊎ (IsAddress host × WithPort default (91 ∷ (host ++ (93 ∷ []))) text port)

-- a byte of a path: visible ASCII, and not #
abbrev pub is_path_byte : ℕ → Bool
is_path_byte b = is_ascii_graphic b && not (b == 35)

-- a byte of an export's name or of a socket's path: neither ? nor #
abbrev pub is_plain_byte : ℕ → Bool
is_plain_byte b = not (b == 63) && not (b == 35)

-- it begins as one of the schemes does
abbrev pub HasScheme : List ℕ → Type 0
HasScheme text = (rest : List ℕ)
    × ((text ≡ codes "http://" ++ rest) ⊎ (text ≡ codes "nbd://" ++ rest) ⊎ (text ≡ codes "nbd+unix://" ++ rest))

-- the text is this source's; HOST[:PORT] ends at the first slash, and the name of an export over a Unix socket at the query
abbrev pub Names : List ℕ → Source → Type 0
Names text (Path path) = (path.now ≡ text) × ¬ (HasScheme text)
Names text (Http server path) = (text ≡ codes "http://" ++ (server.text.now ++ (47 ∷ path.now)))
    × Lacks 47 server.text.now × IsAuthority 80 server.text.now server.host.now server.port
    × IsTrue (list_all is_path_byte path.now)
Names text (Nbd server name) = ((text ≡ codes "nbd://" ++ (server.text.now ++ (47 ∷ name.text.now)))
    ⊎ ((text ≡ codes "nbd://" ++ server.text.now) × (name.text.now ≡ [])))
    × Lacks 47 server.text.now × IsAuthority 10809 server.text.now server.host.now server.port
    × IsTrue (list_all is_plain_byte name.text.now)
Names text (NbdUnix socket name) = (text ≡ codes "nbd+unix:///" ++ (name.text.now ++ (codes "?socket=" ++ socket.text.now)))
    × IsTrue (list_all is_plain_byte name.text.now) × IsTrue (list_all is_plain_byte socket.text.now) × (0 < length socket.text.now)

-- the text is no source's
abbrev pub NamesNone : List ℕ → Type 0
NamesNone text = (s : Source) → ¬ (Names text s)
