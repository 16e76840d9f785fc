-- What is asked of a server: a range of a resource.
use Rattle.std.specs.Prelude.{ℕ, List, ◌++◌, codes}
use Rattle.std.specs.Fmt.{decimal}

-- the request for the bytes from `first` to `last` of what the host calls `target`
abbrev pub range_request : (host target : List ℕ) (first last : ℕ) → List ℕ
range_request host target first last = codes "GET " ++ (target ++ (codes " HTTP/1.1\r\nHost: " ++ (host
    ++ (codes "\r\nRange: bytes=" ++ (decimal first ++ (codes "-" ++ (decimal last
    ++ codes "\r\nAccept-Encoding: identity\r\nUser-Agent: dalgovuun\r\n\r\n")))))))
