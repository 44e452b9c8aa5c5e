-- The rules of heads, in their order (RFC 9112, sections 3, 6 and 9; RFC 9110, sections 9 and 10).
use Rattle.std.specs.Prelude.{◌≡◌, ℕ, ◌==◌, ◌&&◌, ◌||◌, not, nat_lt, nat_le, ◌⊎◌, Bool, true, false}
use Rattle.std.specs.Prelude.{List, [], ◌∷◌, ◌++◌, length, map, count_by, codes, if◌then◌else◌}
use Rattle.std.specs.Prelude.{Option, Some, None, MatchOption}
use Rattle.std.specs.Str.{bytes_eq}
use Rattle.std.specs.Str.Parse.{digits_value}
use Rattle.std.specs.Char.{is_ascii_digit}
use Rattle.std.specs.List.{list_all, filter}
use Rattle.hex.specs.Hex.{encode_lower}
use Rattle.blob_digest.specs.Body.{greatest_blob}
use Rattle.blob_digest.specs.DigestValue.{IsHash}
use Rattle.httparse.specs.Grammar.{RequestHead}
use Rattle.httparse.specs.Spans.{name_and_value}
use Rattle.http_core.specs.Names.{same_name}
use Rattle.http_core.specs.Connection.{closes_of}
use Rattle.http_core.specs.Event.{is_served}
use Rattle.http_core.specs.declared.event.Area.{Area}
use Rattle.http_core.specs.declared.event.Area.TheVariants.{Ac, Cas, Pin, Unpin}
use Rattle.http_core.specs.declared.judging.Judgement.{Judgement}
use Rattle.http_core.specs.declared.judging.Judgement.TheVariants as judgements
use Rattle.http_core.specs.declared.rules.Length.{Length}
use Rattle.http_core.specs.declared.rules.Length.TheVariants.{Absent, Bad, Is}

-- how many fields have the name
abbrev pub count_of : List ℕ → List (List ℕ × List ℕ) → ℕ
count_of name fields = count_by (λ f. same_name f.0 name) fields

-- 1 to 19 decimal digits
abbrev pub is_length : List ℕ → Bool
is_length text = nat_lt 0 (length text) && nat_le (length text) 19 && list_all is_ascii_digit text

-- the length that the text says
unfoldable pub read_length : List ℕ → Length
read_length text = if is_length text then Is (digits_value 10 text) else Bad

-- the values of the fields with the name
abbrev pub values_of : List ℕ → List (List ℕ × List ℕ) → List (List ℕ)
values_of name fields = map (λ f. f.1) (filter (λ f. same_name f.0 name) fields)

-- what the values of `Content-Length` fields say: more than one are bad, also if they agree
abbrev pub length_among : List (List ℕ) → Length
length_among [] = Absent
length_among (text ∷ []) = read_length text
length_among (text ∷ other ∷ more) = Bad

-- what the fields say of the body's length (RFC 9112, section 6.2)
abbrev pub length_of : List (List ℕ × List ℕ) → Length
length_of fields = length_among (values_of (codes "content-length") fields)

abbrev pub is_bad : Length → Bool
is_bad Bad = true
is_bad other = false

abbrev pub is_absent : Length → Bool
is_absent Absent = true
is_absent other = false

-- how many bytes a body has of which this is said: without a word, none
abbrev pub body_size : Length → ℕ
body_size (Is size) = size
body_size other = 0

-- the methods that the server knows; their names have case (RFC 9110, section 9.1)
abbrev pub is_get : List ℕ → Bool
is_get method = bytes_eq method (codes "GET")

abbrev pub is_put : List ℕ → Bool
is_put method = bytes_eq method (codes "PUT")

-- the status of the first rule that applies
abbrev pub first_status : List (Bool × ℕ) → Option ℕ
first_status [] = None
first_status ((applies, status) ∷ rules) = if applies then Some status else first_status rules

-- the rules in their order, but for the target's: whether each applies, and its status
abbrev pub rules_of : ℕ → List ℕ → List (List ℕ × List ℕ) → List (Bool × ℕ)
rules_of minor method fields =
    (minor == 0, 505)
    ∷ (not (count_of (codes "host") fields == 1), 400)
    ∷ (nat_lt 0 (count_of (codes "transfer-encoding") fields), 501)
    ∷ (is_bad (length_of fields), 400)
    ∷ (nat_lt 0 (count_of (codes "expect") fields), 417)
    ∷ (not (is_get method) && not (is_put method), 405)
    ∷ (is_put method && is_absent (length_of fields), 411)
    ∷ (nat_lt greatest_blob (body_size (length_of fields)), 413)
    ∷ (is_get method && nat_lt 0 (body_size (length_of fields)), 400)
    ∷ []

-- the status that refuses a head with these parts, if one does
unfoldable pub refused_status : ℕ → List ℕ → List (List ℕ × List ℕ) → Option ℕ
refused_status minor method fields = first_status (rules_of minor method fields)

-- an area as it stands in a target
abbrev pub area_text : Area → List ℕ
area_text Ac = codes "/ac/"
area_text Cas = codes "/cas/"
area_text Pin = codes "/pin/"
area_text Unpin = codes "/unpin/"

-- the target of the hash in the area, the hash in lowercase hex
abbrev pub target_text : List ℕ → Area → List ℕ → List ℕ
target_text prefix area hash = prefix ++ (area_text area ++ encode_lower hash)

-- the target is that of the hash in the area, which such a request may name
pub record Names
    (prefix : List ℕ) (put : Bool) (target : List ℕ) (area : Area) (hash : List ℕ) : Type 0 where
  pub is_hash : IsHash hash
  pub served : is_served put area ≡ true
  pub text : target ≡ target_text prefix area hash

-- what a PUT or a GET with this target asks for
abbrev pub asked : Bool → ℕ → Bool → Area → List ℕ → Judgement
asked true size close area hash = judgements.Put area hash size close
asked false size close area hash = judgements.Get area hash close

-- What the target asks for, or 404, which closes the session after a PUT: its body isn't read.
abbrev pub Targets : List ℕ → Bool → Bool → List ℕ → ℕ → Judgement → Type 0
Targets prefix put close target size j =
    ((area : Area) × (hash : List ℕ) × Names prefix put target area hash
    × (j ≡ asked put size close area hash))
    ⊎ (((area : Area) (hash : List ℕ) → Names prefix put target area hash → ⊥)
    × (j ≡ judgements.Refuse 404 (put || close)))

-- What a head of version 1.minor asks for, unless a rule refuses it; its fields are names, and
-- values without the white space around them.
abbrev pub JudgesHead : List ℕ → RequestHead → Judgement → Type 0
JudgesHead prefix h j =
    let fields = map name_and_value h.fields in
    MatchOption (refused_status h.minor h.method fields)
    (Targets prefix (is_put h.method) (closes_of fields) h.target (body_size (length_of fields)) j)
    (λ status. j ≡ judgements.Refuse status true)
