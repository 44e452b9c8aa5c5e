-- What stands before each target: segments, each after a slash (RFC 3986, sections 2.3 and 3.3).
use Rattle.std.specs.Prelude.{ℕ, ◌==◌, ◌&&◌, ◌||◌, nat_lt, nat_le, Bool, true, List, [], ◌∷◌}
use Rattle.std.specs.Prelude.{length}
use Rattle.std.specs.Char.{is_ascii_alphanumeric}
use Rattle.std.specs.List.{list_all, slice_split}

-- a letter, a digit, or one of - . _ ~
abbrev pub is_unreserved : ℕ → Bool
is_unreserved b = is_ascii_alphanumeric b || (b == 45 || b == 46 || b == 95 || b == 126)

-- a segment of a prefix: one or more letters, digits, or - . _ ~
abbrev pub is_prefix_segment : List ℕ → Bool
is_prefix_segment text = nat_lt 0 (length text) && list_all is_unreserved text

-- no bytes, or a slash and then segments with a slash between any two
abbrev pub are_segments : List ℕ → Bool
are_segments [] = true
are_segments (b ∷ text) = b == 47 && list_all is_prefix_segment (slice_split (λ c. c == 47) text)

-- segments of at most 256 bytes together
abbrev pub is_prefix : List ℕ → Bool
is_prefix text = nat_le (length text) 256 && are_segments text
