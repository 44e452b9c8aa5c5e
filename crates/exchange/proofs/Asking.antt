-- A client's request, as a server reads it.
use Rattle.std.proofs.Common.{◌≡◌, ℕ, ◌<◌, ◌≤◌, nat_lt, inl, inr, true, false, Some, None, List, [], ◌∷◌, ◌++◌, codes, length, map, refl, sym, ◌∙◌, ap, subst, append_assoc, length-append, arith}
use Rattle.std.specs.Prelude.{All}
use Rattle.std.specs.Fmt.{decimal}
use Rattle.std.specs.List.{list_all}
use Rattle.std.specs.Str.Parse.{digits_value}
use Rattle.std.proofs.lemmas.Fmt.{length-decimal-le}
use Rattle.std.proofs.lemmas.List.{append-nil}
use Rattle.std.proofs.lemmas.List.Elements.{All-cons, All-nil}
use Rattle.std.proofs.lemmas.List.Sums.{AllPass-from_list_all}
use Rattle.std.proofs.lemmas.Str.{IsUtf8-from_ascii}
use Rattle.httparse.specs.Grammar.{Field, RequestHead, IsField, IsRequestHead, crlf, print_request, is_token_byte, is_uri_byte, is_value_byte}
use Rattle.httparse.specs.Spans.{name_and_value}
use Rattle.blob_digest.specs.Body.{greatest_blob}
use Rattle.blob_digest.specs.DigestValue.{IsHash}
use Rattle.http_core.specs.declared.event.Area.{Area}
use Rattle.http_core.specs.Block.{IsBlock}
use Rattle.http_core.specs.Event.{Asked, Get, Put, is_served}
use Rattle.http_core.specs.Judging.{IsHeadOf, Judges, pairs}
use Rattle.http_core.specs.Request.{request_text}
use Rattle.http_core.specs.Rules.{JudgesHead, asked, body_size, is_length, length_of, read_length, refused_status, target_text}
use Rattle.http_core.specs.Stream.{IsRequest}
use Rattle.exchange.proofs.Lines.{IsLine, lines_block, lines_pairs, lines_text}
use Rattle.exchange.proofs.Bytes.{all_implied, all_joined, is_visible, visible_ascii, visible_uri, visible_value}
use Rattle.exchange.proofs.Numbers.{decimal_length, decimal_size, decimal_value, decimal_visible, trimmed}

-- ---- lines

abbrev start_line : List ℕ → List ℕ → List ℕ
start_line method target = method ++ 32 ∷ (target ++ codes " HTTP/1.1")

abbrev host_line : List ℕ → List ℕ
host_line host = codes "Host: " ++ host

abbrev pub size_line : ℕ → List ℕ
size_line n = codes "Content-Length: " ++ decimal n

abbrev pub block_of : List (List ℕ) → List ℕ
block_of lines = lines_text lines ++ 13 ∷ 10 ∷ []

pub values : (bytes : List ℕ) → list_all is_visible bytes ≡ true → list_all is_value_byte bytes ≡ true
values bytes h = all_implied is_visible is_value_byte visible_value bytes h

start_is_line : (method target : List ℕ) → list_all is_value_byte method ≡ true → list_all is_visible target ≡ true → IsLine (start_line method target)
start_is_line method target m t = record {
  some = omega (arith, length-append method (32 ∷ (target ++ codes " HTTP/1.1")));
  plain = all_joined is_value_byte method (32 ∷ (target ++ codes " HTTP/1.1")) m (all_joined is_value_byte target (codes " HTTP/1.1") (values target t) refl);
}

host_is_line : (host : List ℕ) → list_all is_visible host ≡ true → IsLine (host_line host)
host_is_line host h = record { some = omega arith; plain = values host h }

pub size_is_line : (n : ℕ) → IsLine (size_line n)
size_is_line n = record { some = omega arith; plain = values (decimal n) (decimal_visible n) }

-- ---- heads

abbrev pub field : List ℕ → List ℕ → Field
field name value = record { name = name; raw = 32 ∷ value; end = crlf }

abbrev head : List ℕ → List ℕ → List Field → RequestHead
head method target fields = record { blank = []; method = method; target = target; minor = 1; line_end = crlf; fields = fields; last = crlf }

abbrev get_fields : List ℕ → List Field
get_fields host = field (codes "Host") host ∷ []

abbrev put_fields : List ℕ → ℕ → List Field
put_fields host n = field (codes "Host") host ∷ field (codes "Content-Length") (decimal n) ∷ []

host_is_field : (host : List ℕ) → list_all is_visible host ≡ true → IsField (field (codes "Host") host)
unfolding is_token_byte
host_is_field host h = record { name = (omega arith, AllPass-from_list_all is_token_byte (codes "Host") refl); raw = AllPass-from_list_all is_value_byte (32 ∷ host) (values host h) }

pub size_is_field : (n : ℕ) → IsField (field (codes "Content-Length") (decimal n))
unfolding is_token_byte
size_is_field n = record {
  name = (omega arith, AllPass-from_list_all is_token_byte (codes "Content-Length") refl);
  raw = AllPass-from_list_all is_value_byte (32 ∷ decimal n) (values (decimal n) (decimal_visible n));
}

-- a target that fits a head
pub record FitsTarget (target : List ℕ) : Type 0 where
  pub visible : list_all is_visible target ≡ true
  pub some : 0 < length target
  pub few : length target ≤ 327

-- a host that fits a head
pub record FitsHost (host : List ℕ) : Type 0 where
  pub visible : list_all is_visible host ≡ true
  pub few : length host ≤ 16000

head_is : (method target : List ℕ) (fields : List Field) → list_all is_token_byte method ≡ true → 0 < length method → FitsTarget target → All IsField fields → IsRequestHead (head method target fields)
head_is method target fields m some t all = record {
  method = (some, AllPass-from_list_all is_token_byte method m);
  target = (t.some, AllPass-from_list_all is_uri_byte target (all_implied is_visible is_uri_byte visible_uri target t.visible));
  target_text = IsUtf8-from_ascii target (visible_ascii target t.visible);
  minor = omega arith;
  fields = all;
}

-- ---- texts

abbrev pub ends : List ℕ
ends = 13 ∷ 10 ∷ []

abbrev get_text : List ℕ → List ℕ → List ℕ
get_text target host = codes "GET " ++ (target ++ (codes " HTTP/1.1\r\nHost: " ++ (host ++ codes "\r\n\r\n")))

abbrev put_text : List ℕ → List ℕ → ℕ → List ℕ
put_text target host n = codes "PUT " ++ (target ++ (codes " HTTP/1.1\r\nHost: " ++ (host ++ (codes "\r\nContent-Length: " ++ (decimal n ++ codes "\r\n\r\n")))))

-- two lists and an end, with what stands behind them
regroup : (target version rest : List ℕ) → ((target ++ version) ++ rest) ++ ends ≡ target ++ (version ++ (rest ++ ends))
regroup target version rest = append_assoc (target ++ version) rest ends ∙ append_assoc target version (rest ++ ends)

get_lines : (target host : List ℕ) → block_of (start_line (codes "GET") target ∷ host_line host ∷ []) ≡ get_text target host
get_lines target host =
    ap (λ z. codes "GET " ++ z) (regroup target (codes " HTTP/1.1") (codes "\r\nHost: " ++ (host ++ ends)) ∙ ap (λ z. target ++ (codes " HTTP/1.1\r\nHost: " ++ z)) (append_assoc host ends ends))

pub put_lines : (target host : List ℕ) (n : ℕ) → block_of (start_line (codes "PUT") target ∷ host_line host ∷ size_line n ∷ []) ≡ put_text target host n
put_lines target host n =
    ap (λ z. codes "PUT " ++ z) (regroup target (codes " HTTP/1.1") (codes "\r\nHost: " ++ (host ++ (codes "\r\nContent-Length: " ++ (decimal n ++ ends))))
    ∙ ap (λ z. target ++ (codes " HTTP/1.1\r\nHost: " ++ z)) (append_assoc host (codes "\r\nContent-Length: " ++ (decimal n ++ ends)) ends ∙ ap (λ z. host ++ (codes "\r\nContent-Length: " ++ z)) (append_assoc (decimal n) ends ends)))

three : (a b c d : List ℕ) → ((a ++ b) ++ c) ++ d ≡ a ++ (b ++ (c ++ d))
three a b c d = simp append_assoc

six : (a b c d e f g : List ℕ) → (((((a ++ b) ++ c) ++ d) ++ e) ++ f) ++ g ≡ a ++ (b ++ (c ++ (d ++ (e ++ (f ++ g)))))
six a b c d e f g = simp append_assoc

nested : (a b c d e f g : List ℕ) → (a ++ (b ++ (c ++ (d ++ (e ++ f))))) ++ g ≡ a ++ (b ++ (c ++ (d ++ (e ++ (f ++ g)))))
nested a b c d e f g = simp append_assoc

get_printed : (target host : List ℕ) → get_text target host ≡ print_request (head (codes "GET") target (get_fields host)) ++ []
unfolding print_request
get_printed target host =
    let section : List ℕ = codes "Host: " ++ (((host ++ ends) ++ []) ++ ends) in
    ap (λ z. codes "GET " ++ (target ++ (codes " HTTP/1.1\r\nHost: " ++ z))) (sym (ap (λ z. z ++ ends) (append-nil (host ++ ends)) ∙ append_assoc host ends ends))
    ∙ ap (λ z. codes "GET " ++ z) (sym (three target (codes " HTTP/1.1") ends section))
    ∙ sym (append-nil (codes "GET " ++ (((target ++ codes " HTTP/1.1") ++ ends) ++ section)))

put_printed : (target host : List ℕ) (n : ℕ) → put_text target host n ≡ print_request (head (codes "PUT") target (put_fields host n)) ++ []
unfolding print_request
put_printed target host n =
    let section : List ℕ = codes "Host: " ++ (((host ++ ends) ++ (codes "Content-Length: " ++ ((decimal n ++ ends) ++ []))) ++ ends) in
    ap (λ z. codes "PUT " ++ (target ++ (codes " HTTP/1.1\r\nHost: " ++ z)))
    (sym (ap (λ z. ((host ++ ends) ++ (codes "Content-Length: " ++ z)) ++ ends) (append-nil (decimal n ++ ends)) ∙ append_assoc (host ++ ends) (codes "Content-Length: " ++ (decimal n ++ ends)) ends
    ∙ append_assoc host ends (codes "Content-Length: " ++ ((decimal n ++ ends) ++ ends)) ∙ ap (λ z. host ++ (codes "\r\nContent-Length: " ++ z)) (append_assoc (decimal n) ends ends)))
    ∙ ap (λ z. codes "PUT " ++ z) (sym (three target (codes " HTTP/1.1") ends section))
    ∙ sym (append-nil (codes "PUT " ++ (((target ++ codes " HTTP/1.1") ++ ends) ++ section)))

get_asked : (prefix host : List ℕ) (area : Area) (hash : List ℕ) → request_text prefix host area hash None ≡ get_text (target_text prefix area hash) host
unfolding request_text
get_asked prefix host area hash = ap (λ z. codes "GET " ++ z) (three (target_text prefix area hash) (codes " HTTP/1.1\r\nHost: ") host (codes "\r\n\r\n"))

pub put_asked : (prefix host : List ℕ) (area : Area) (hash body : List ℕ) → request_text prefix host area hash (Some body) ≡ put_text (target_text prefix area hash) host (length body) ++ body
unfolding request_text
put_asked prefix host area hash body =
    let target : List ℕ = target_text prefix area hash in
    let dec : List ℕ = decimal (length body) in
    ap (λ z. codes "PUT " ++ z)
    (six target (codes " HTTP/1.1\r\nHost: ") host (codes "\r\nContent-Length: ") dec (codes "\r\n\r\n") body
    ∙ sym (nested target (codes " HTTP/1.1\r\nHost: ") host (codes "\r\nContent-Length: ") dec (codes "\r\n\r\n") body))

pub get_is_head : (target host : List ℕ) → FitsTarget target → FitsHost host → IsHeadOf (get_text target host) (head (codes "GET") target (get_fields host))
unfolding is_token_byte
get_is_head target host t h = (
  (head_is (codes "GET") target (get_fields host) refl (omega arith) t (All-cons IsField (field (codes "Host") host) [] (host_is_field host h.visible) (All-nil IsField)), get_printed target host),
  omega arith,
)

pub put_is_head : (target host : List ℕ) (n : ℕ) → FitsTarget target → FitsHost host → IsHeadOf (put_text target host n) (head (codes "PUT") target (put_fields host n))
unfolding is_token_byte
put_is_head target host n t h = (
  (
    head_is (codes "PUT") target (put_fields host n) refl (omega arith) t
        (All-cons IsField (field (codes "Host") host) (field (codes "Content-Length") (decimal n) ∷ []) (host_is_field host h.visible)
        (All-cons IsField (field (codes "Content-Length") (decimal n)) [] (size_is_field n) (All-nil IsField))),
    put_printed target host n,
  ),
  omega arith,
)

-- ---- judgements

pub get_unrefused : (host : List ℕ) → refused_status 1 (codes "GET") (map name_and_value (get_fields host)) ≡ None
unfolding refused_status
get_unrefused host = refl

pub put_length : (host : List ℕ) (n : ℕ) → length_of (map name_and_value (put_fields host n)) ≡ read_length (decimal n)
put_length host n = ap read_length (trimmed (decimal n) (decimal_visible n))

pub put_unrefused : (host : List ℕ) (n : ℕ) → n ≤ greatest_blob → refused_status 1 (codes "PUT") (map name_and_value (put_fields host n)) ≡ None
unfolding refused_status read_length
put_unrefused host n small =
    let fits : nat_lt greatest_blob n ≡ false = grind arith in
    let is : is_length (decimal n) ≡ true = decimal_length n (omega arith) in
    let value : digits_value 10 (decimal n) ≡ n = decimal_value n (omega arith) in
    rw (trimmed (decimal n) (decimal_visible n), is, value, fits) refl

get_judged : (prefix host : List ℕ) (area : Area) (hash : List ℕ) → IsHash hash → is_served false area ≡ true
    → JudgesHead prefix (head (codes "GET") (target_text prefix area hash) (get_fields host)) (asked false 0 false area hash)
get_judged prefix host area hash is served =
    rw (get_unrefused host) (inl (area, hash, record { is_hash = is; served = served; text = refl }, refl))

put_judged : (prefix host : List ℕ) (area : Area) (hash : List ℕ) (n : ℕ) → IsHash hash → is_served true area ≡ true → n ≤ greatest_blob
    → JudgesHead prefix (head (codes "PUT") (target_text prefix area hash) (put_fields host n)) (asked true n false area hash)
put_judged prefix host area hash n is served small =
    let size : body_size (length_of (map name_and_value (put_fields host n))) ≡ n = ap body_size (put_length host n) ∙ decimal_size n (omega arith) in
    rw (put_unrefused host n small) (inl (area, hash, record { is_hash = is; served = served; text = refl }, ap (λ z. asked true z false area hash) (sym size)))

-- ---- requests

get_block : (target host : List ℕ) → FitsTarget target → FitsHost host → IsBlock (get_text target host)
get_block target host t h =
    subst IsBlock (get_lines target host) (lines_block (start_line (codes "GET") target) (host_line host ∷ []) (start_is_line (codes "GET") target refl t.visible) (host_is_line host h.visible, tt))

put_block : (target host : List ℕ) (n : ℕ) → FitsTarget target → FitsHost host → IsBlock (put_text target host n)
put_block target host n t h =
    subst IsBlock (put_lines target host n) (lines_block (start_line (codes "PUT") target) (host_line host ∷ size_line n ∷ []) (start_is_line (codes "PUT") target refl t.visible) (host_is_line host h.visible, (size_is_line n, tt)))

get_pairs : (target host : List ℕ) → FitsTarget target → FitsHost host → pairs (get_text target host) ≡ 3
get_pairs target host t h =
    ap pairs (sym (get_lines target host)) ∙ lines_pairs (start_line (codes "GET") target ∷ host_line host ∷ []) (start_is_line (codes "GET") target refl t.visible, (host_is_line host h.visible, tt))

put_pairs : (target host : List ℕ) (n : ℕ) → FitsTarget target → FitsHost host → pairs (put_text target host n) ≡ 4
put_pairs target host n t h =
    ap pairs (sym (put_lines target host n)) ∙ lines_pairs (start_line (codes "PUT") target ∷ host_line host ∷ size_line n ∷ []) (start_is_line (codes "PUT") target refl t.visible, (host_is_line host h.visible, (size_is_line n, tt)))

get_fits : (target host : List ℕ) → FitsTarget target → FitsHost host → length (get_text target host) ≤ 16384
get_fits target host t h =
    let few = t.few in
    let small = h.few in
    let a = length-append target (codes " HTTP/1.1\r\nHost: " ++ (host ++ codes "\r\n\r\n")) in
    let b = length-append host (codes "\r\n\r\n") in
    omega arith

put_fits : (target host : List ℕ) (n : ℕ) → FitsTarget target → FitsHost host → n ≤ greatest_blob → length (put_text target host n) ≤ 16384
put_fits target host n t h k =
    let few = t.few in
    let small = h.few in
    let digits = length-decimal-le 8 n (omega arith) (omega arith) (omega arith) in
    let a = length-append target (codes " HTTP/1.1\r\nHost: " ++ (host ++ (codes "\r\nContent-Length: " ++ (decimal n ++ codes "\r\n\r\n")))) in
    let b = length-append host (codes "\r\nContent-Length: " ++ (decimal n ++ codes "\r\n\r\n")) in
    let c = length-append (decimal n) (codes "\r\n\r\n") in
    omega arith

pub get_completes : (prefix host : List ℕ) (area : Area) (hash : List ℕ) → FitsTarget (target_text prefix area hash) → FitsHost host → IsHash hash → is_served false area ≡ true
    → IsRequest prefix (request_text prefix host area hash None) (Asked (Get area hash) false)
unfolding Judges
get_completes prefix host area hash t h is served =
    let target : List ℕ = target_text prefix area hash in
    record {
      block = get_text target host;
      body = [];
      judgement = asked false 0 false area hash;
      whole = get_asked prefix host area hash ∙ sym (append-nil (get_text target host));
      ends = get_block target host t h;
      fits = get_fits target host t h;
      judged = inr (inr ((let e = get_pairs target host t h in omega arith), head (codes "GET") target (get_fields host), get_is_head target host t h, get_judged prefix host area hash is served));
      full = refl;
      gives = refl;
    }

pub put_completes : (prefix host : List ℕ) (area : Area) (hash body : List ℕ) → FitsTarget (target_text prefix area hash) → FitsHost host → IsHash hash → is_served true area ≡ true → length body ≤ greatest_blob
    → IsRequest prefix (request_text prefix host area hash (Some body)) (Asked (Put area hash body) false)
unfolding Judges
put_completes prefix host area hash body t h is served small =
    let target : List ℕ = target_text prefix area hash in
    let n : ℕ = length body in
    record {
      block = put_text target host n;
      body = body;
      judgement = asked true n false area hash;
      whole = put_asked prefix host area hash body;
      ends = put_block target host n t h;
      fits = put_fits target host n t h small;
      judged = inr (inr ((let e = put_pairs target host n t h in omega arith), head (codes "PUT") target (put_fields host n), put_is_head target host n t h, put_judged prefix host area hash n is served small));
      full = refl;
      gives = refl;
    }
