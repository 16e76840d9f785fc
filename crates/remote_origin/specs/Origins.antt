-- Where a file at a server lies.
use Rattle.std.specs.Prelude.{◌≡◌, ℕ, List, ◌∷◌, string_bytes}
use Rattle.percent_encoding.specs.Percent.{percent_decode}
use Rattle.remote_url.specs.declared.authority.Authority.{Authority}
use Rattle.remote_url.specs.declared.source.Source.{Source}
use Rattle.remote_url.specs.declared.source.Source.TheVariants.{Path, Http, Nbd, NbdUnix}
use Rattle.remote_origin.specs.declared.origin.Origin.{Origin}
use Rattle.remote_origin.specs.declared.origin.Origin.TheVariants as origin

-- a resource: this host and port are dialed, and this target is asked for of this server, as the URL has them
abbrev pub IsResource : {R Stream Listener : Type 0} → Authority → (path : List ℕ) → Origin R Stream Listener → Type 0
IsResource server path (origin.Http file) = (string_bytes file.source.dial.host ≡ server.host.now)
    × (file.source.dial.port ≡ server.port) × (string_bytes file.source.host ≡ server.text.now)
    × (string_bytes file.source.target ≡ 47 ∷ path)
IsResource server path _ = ⊥

-- an export: this host and port are dialed, and this name is asked for
abbrev pub IsExport : {R Stream Listener : Type 0} → Authority → (name : List ℕ) → Origin R Stream Listener → Type 0
IsExport server name (origin.Nbd file) = (string_bytes file.source.dial.host ≡ server.host.now)
    × (file.source.dial.port ≡ server.port) × (string_bytes file.source.name ≡ percent_decode name)
IsExport server name _ = ⊥

-- an export over a Unix socket
abbrev pub IsSocketExport : {R Stream Listener : Type 0} → (socket name : List ℕ) → Origin R Stream Listener → Type 0
IsSocketExport socket name (origin.NbdUnix file) = (string_bytes file.source.dial.path ≡ percent_decode socket)
    × (string_bytes file.source.name ≡ percent_decode name)
IsSocketExport socket name _ = ⊥

-- it lies where this source says
abbrev pub IsAt : {R Stream Listener : Type 0} → Source → Origin R Stream Listener → Type 0
IsAt (Path path) file = ⊥
IsAt (Http server path) file = IsResource server path.now file
IsAt (Nbd server name) file = IsExport server name.text.now file
IsAt (NbdUnix socket name) file = IsSocketExport socket.text.now name.text.now file
