-- What a server gave for an answer to a client that opens an export.
use Rattle.std.specs.Prelude.{◌≡◌, ◌⊎◌, ℕ, ◌==◌, List, [], ◌∷◌, ◌++◌, length, take, Option, None, Some, if◌then◌else◌}
use Rattle.std.specs.List.{flat_map}
use Rattle.std.specs.Io.KnownBytes.{Appends, Consumes}
use Rattle.remote_nbd.specs.declared.export.Export.{Export}
use Rattle.remote_nbd.specs.Messages.{number_at, magics, go_request, name_request, go_reply}

-- a server greeted: 18 bytes, the first ones its magics
abbrev pub Greets : (old new : Option (List ℕ)) → Type 0
Greets old new = (greeting : List ℕ) × Consumes old new greeting × (length greeting ≡ 18) × (take 16 greeting ≡ magics)

-- NBD_REP_INFO
abbrev pub info_reply : List ℕ → List ℕ
info_reply bytes = go_reply 3 bytes

-- the export that an information describes; none where it isn't NBD_INFO_EXPORT
abbrev pub export_in : List ℕ → List Export
export_in bytes = if number_at 0 2 bytes == 0 then record { size = number_at 2 8 bytes; flags = number_at 10 2 bytes } ∷ [] else []

-- an export that is known, as a list
abbrev pub known : Option Export → List Export
known None = []
known (Some export) = export ∷ []

-- these informations were given so far, of which those that describe an export describe this one, once
pub record Informs (old new : Option (List ℕ)) (found : Option Export) : Type 0 where
  pub infos : List (List ℕ)
  pub gave : Consumes old new (flat_map info_reply infos)
  pub exports : flat_map export_in infos ≡ known found

-- the server replied to GO by informations, of which exactly one describes an export, and then by NBD_REP_ACK;
-- or by informations and NBD_REP_ERR_UNSUP
abbrev pub Goes : (old new : Option (List ℕ)) → Option Export → Type 0
Goes old new (Some export) = (infos : List (List ℕ)) × Consumes old new (flat_map info_reply infos ++ go_reply 1 [])
    × (flat_map export_in infos ≡ export ∷ [])
Goes old new None = (infos : List (List ℕ)) × (text : List ℕ)
    × Consumes old new (flat_map info_reply infos ++ go_reply 0x80000001 text)

-- it answered EXPORT_NAME by these numbers, and zeros or what else it had
abbrev pub Names : (old new : Option (List ℕ)) → Export → Type 0
Names old new export = (answer : List ℕ) × Consumes old new answer × ((length answer ≡ 10) ⊎ (length answer ≡ 134))
    × (export.size ≡ number_at 0 8 answer) × (export.flags ≡ number_at 8 2 answer)

-- It gave these bytes and no more: its greeting, and replies to GO, of which exactly one describes the export by these numbers, and the
-- last accepts; or its greeting, replies that end in one that it has no GO, and an answer to EXPORT_NAME with these numbers.
pub record Opens (old new : Option (List ℕ)) (export : Export) : Type 0 where
  pub greeting : List ℕ
  pub long : length greeting ≡ 18
  pub magic : take 16 greeting ≡ magics
  pub infos : List (List ℕ)
  pub replied : (Consumes old new (greeting ++ (flat_map info_reply infos ++ go_reply 1 [])) × (flat_map export_in infos ≡ export ∷ []))
      ⊎ ((text : List ℕ) × (answer : List ℕ)
      × Consumes old new (greeting ++ ((flat_map info_reply infos ++ go_reply 0x80000001 text) ++ answer))
      × ((length answer ≡ 10) ⊎ (length answer ≡ 134))
      × (export.size ≡ number_at 0 8 answer) × (export.flags ≡ number_at 8 2 answer))

-- the client asked for the export of this name: by GO, and maybe by EXPORT_NAME then
abbrev pub Asks : (old new : Option (List ℕ)) (name : List ℕ) → Type 0
Asks old new name = (flags : ℕ)
    × (Appends old new (go_request flags name) ⊎ Appends old new (go_request flags name ++ name_request name))
