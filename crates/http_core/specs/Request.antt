-- The text of a client's request (RFC 9112, sections 3 and 6.2; RFC 9110, section 7.2).
use Rattle.std.specs.Prelude.{ℕ, List, ◌++◌, length, codes, Option, Some, None}
use Rattle.std.specs.Fmt.{decimal}
use Rattle.http_core.specs.declared.event.Area.{Area}
use Rattle.http_core.specs.Rules.{target_text}

-- the request up to the end of its host
abbrev pub start_text : List ℕ → List ℕ → Area → List ℕ → List ℕ → List ℕ
start_text method prefix area hash host =
    method ++ codes " " ++ target_text prefix area hash ++ codes " HTTP/1.1\r\nHost: " ++ host

-- a GET, or a PUT where there is a body
unfoldable pub request_text : List ℕ → List ℕ → Area → List ℕ → Option (List ℕ) → List ℕ
request_text prefix host area hash None =
    start_text (codes "GET") prefix area hash host ++ codes "\r\n\r\n"
request_text prefix host area hash (Some body) =
    start_text (codes "PUT") prefix area hash host
    ++ codes "\r\nContent-Length: " ++ decimal (length body) ++ codes "\r\n\r\n" ++ body
