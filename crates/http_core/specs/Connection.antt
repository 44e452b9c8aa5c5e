-- The `Connection` field, a list of options between commas (RFC 9110, sections 5.6.1 and 7.6.1).
use Rattle.std.specs.Prelude.{ℕ, ◌==◌, ◌&&◌, Bool, List, codes}
use Rattle.std.specs.List.{list_any, slice_split}
use Rattle.httparse.specs.Grammar.{trim_ows}
use Rattle.http_core.specs.Names.{same_name}

-- the option, without the spaces and tabs around it
abbrev pub is_close : List ℕ → Bool
is_close part = same_name (trim_ows part) (codes "close")

-- an option of the list is `close`
abbrev pub lists_close : List ℕ → Bool
lists_close value = list_any is_close (slice_split (λ b. b == 44) value)

-- the fields, names with values, ask to close the connection after the answer
abbrev pub closes_of : List (List ℕ × List ℕ) → Bool
closes_of fields = list_any (λ f. same_name f.0 (codes "connection") && lists_close f.1) fields
