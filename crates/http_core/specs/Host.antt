-- The value of a `Host` field: a host, and perhaps a port (RFC 9110, section 7.2), made of the
-- bytes that these have (RFC 3986, sections 3.2.2 and 3.2.3).
use Rattle.std.specs.Prelude.{ℕ, ◌==◌, ◌&&◌, ◌||◌, nat_lt, Bool, List, length}
use Rattle.std.specs.List.{list_all}
use Rattle.http_core.specs.Prefix.{is_unreserved}

-- one of ! $ & ' ( ) * + , ; =
abbrev pub is_delimiter : ℕ → Bool
is_delimiter b =
    b == 33 || b == 36 || b == 38 || b == 39 || b == 40 || b == 41 || b == 42 || b == 43
    || b == 44 || b == 59 || b == 61

-- a byte of a name, or one of % : [ ]
abbrev pub is_host_byte : ℕ → Bool
is_host_byte b =
    is_unreserved b || is_delimiter b || (b == 37 || b == 58 || b == 91 || b == 93)

-- a host: one or more of its bytes, so no blank, no line end, no slash, and no name of a user
abbrev pub is_host : List ℕ → Bool
is_host text = nat_lt 0 (length text) && list_all is_host_byte text
