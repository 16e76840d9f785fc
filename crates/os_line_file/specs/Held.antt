-- The texts that a folder holds in memory.
use Rattle.std.specs.Prelude.{ℕ, List, Option, Vec}
use Rattle.std.specs.Option.{option_map}
use Rattle.os_line_file.specs.Folder.{Texts}

abbrev pub text_of : {A : Type 0} → Option (Vec ℕ A) → Option (List ℕ)
text_of text = option_map (λ bytes. bytes.items) text

abbrev pub texts_of : {A : Type 0} → Option (Vec ℕ A) → Option (Vec ℕ A) → Texts
texts_of line next = record { line = text_of line; next = text_of next }
