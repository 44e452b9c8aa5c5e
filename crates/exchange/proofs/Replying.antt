-- A server's answer, as a client reads it.
use Rattle.std.proofs.Common.{◌≡◌, ℕ, suc, ◌<◌, ◌≤◌, ◌==◌, nat_lt, inl, inr, Bool, true, false, cond, Some, None, option_map, List, [], ◌∷◌, ◌++◌, codes, length, map, refl, sym, ◌∙◌, ap, subst, append_assoc, length-append, arith}
use Rattle.std.specs.Prelude.{All, if◌then◌else◌}
use Rattle.std.specs.Char.{is_ascii_digit}
use Rattle.std.specs.Fmt.{decimal}
use Rattle.std.specs.List.{AllByRecursion, flat_map, list_all}
use Rattle.std.proofs.lemmas.Bool.{cases_lt}
use Rattle.std.proofs.lemmas.Fmt.{length-decimal-le}
use Rattle.std.proofs.lemmas.List.{append-nil}
use Rattle.std.proofs.lemmas.List.Elements.{All-cons, All-nil}
use Rattle.std.proofs.lemmas.List.Sums.{AllPass-from_list_all}
use Rattle.httparse.specs.Grammar.{Field, ResponseHead, IsField, IsResponseHead, crlf, print_field, print_response, is_token_byte, is_value_byte, status_code, trim_ows}
use Rattle.httparse.specs.Spans.{name_and_value}
use Rattle.httparse.proofs.GrammarLemmas.{response_unique}
use Rattle.blob_digest.specs.Body.{greatest_blob}
use Rattle.http_core.specs.Block.{IsBlock}
use Rattle.http_core.specs.Connection.{closes_of}
use Rattle.http_core.specs.Judging.{pairs}
use Rattle.http_core.specs.Reply.{allow_line, connection_line, head_text, reason}
use Rattle.http_core.specs.ReplyHead.{IsReplyHead, IsResponseOf, reply_length, reply_of}
use Rattle.http_core.specs.declared.reply_head.ReplyHead.{ReplyHead}
use Rattle.http_core.specs.Rules.{read_length}
use Rattle.exchange.proofs.Lines.{IsLine, lines_block, lines_pairs, lines_text}
use Rattle.exchange.proofs.Bytes.{all_joined}
use Rattle.exchange.proofs.Numbers.{decimal_digits, decimal_length, decimal_three, decimal_value, decimal_visible, huge_length, trimmed}
use Rattle.exchange.proofs.Asking.{block_of, ends, field, size_is_field, size_is_line, size_line, values}

-- a status of three digits, which may have a body
pub record IsPlainStatus (status : ℕ) : Type 0 where
  pub low : 100 ≤ status
  pub high : status < 1000
  pub other : (status == 204) ≡ false

-- ---- reasons

pick : (b : Bool) (x y : List ℕ) → list_all is_value_byte x ≡ true → list_all is_value_byte y ≡ true → list_all is_value_byte (cond b x y) ≡ true
pick true x y p q = p
pick false x y p q = q

reason_values : (status : ℕ) → list_all is_value_byte (reason status) ≡ true
unfolding reason
reason_values s =
    pick (s == 200) _ _ refl (pick (s == 400) _ _ refl (pick (s == 404) _ _ refl (pick (s == 405) _ _ refl (pick (s == 409) _ _ refl (pick (s == 411) _ _ refl
    (pick (s == 413) _ _ refl (pick (s == 417) _ _ refl (pick (s == 431) _ _ refl (pick (s == 501) _ _ refl (pick (s == 505) _ _ refl (pick (s == 507) _ _ refl refl)))))))))))

shorter : (b : Bool) (x y : List ℕ) → length x ≤ 31 → length y ≤ 31 → length (cond b x y) ≤ 31
shorter true x y p q = p
shorter false x y p q = q

reason_short : (status : ℕ) → length (reason status) ≤ 31
unfolding reason
reason_short s =
    shorter (s == 200) _ _ (omega arith) (shorter (s == 400) _ _ (omega arith) (shorter (s == 404) _ _ (omega arith) (shorter (s == 405) _ _ (omega arith) (shorter (s == 409) _ _ (omega arith) (shorter (s == 411) _ _ (omega arith)
    (shorter (s == 413) _ _ (omega arith) (shorter (s == 417) _ _ (omega arith) (shorter (s == 431) _ _ (omega arith) (shorter (s == 501) _ _ (omega arith) (shorter (s == 505) _ _ (omega arith) (shorter (s == 507) _ _ (omega arith) (omega arith))))))))))))

-- ---- what stands behind the length: whether methods are listed, and whether the session closes

abbrev pub tail_text : Bool → Bool → List ℕ
tail_text a c = (if a then codes "Allow: GET, PUT\r\n" else []) ++ (connection_line c ++ ends)

abbrev pub tail_lines : Bool → Bool → List (List ℕ)
tail_lines a c = (if a then codes "Allow: GET, PUT" ∷ [] else []) ++ (if c then codes "Connection: close" ∷ [] else [])

abbrev tail_fields : Bool → Bool → List Field
tail_fields a c = (if a then field (codes "Allow") (codes "GET, PUT") ∷ [] else []) ++ (if c then field (codes "Connection") (codes "close") ∷ [] else [])

tail_as_lines : (a c : Bool) → lines_text (tail_lines a c) ++ ends ≡ tail_text a c
tail_as_lines true true = refl
tail_as_lines true false = refl
tail_as_lines false true = refl
tail_as_lines false false = refl

tail_as_fields : (a c : Bool) → flat_map print_field (tail_fields a c) ++ ends ≡ tail_text a c
tail_as_fields true true = refl
tail_as_fields true false = refl
tail_as_fields false true = refl
tail_as_fields false false = refl

allow_is_line : IsLine (codes "Allow: GET, PUT")
allow_is_line = record { some = omega arith; plain = refl }

close_is_line : IsLine (codes "Connection: close")
close_is_line = record { some = omega arith; plain = refl }

tail_are_lines : (a c : Bool) → AllByRecursion IsLine (tail_lines a c)
tail_are_lines true true = (allow_is_line, (close_is_line, tt))
tail_are_lines true false = (allow_is_line, tt)
tail_are_lines false true = (close_is_line, tt)
tail_are_lines false false = tt

tail_few : (a c : Bool) → length (tail_lines a c) ≤ 2
tail_few true true = omega arith
tail_few true false = omega arith
tail_few false true = omega arith
tail_few false false = omega arith

tail_short : (a c : Bool) → length (tail_text a c) ≤ 38
tail_short true true = omega arith
tail_short true false = omega arith
tail_short false true = omega arith
tail_short false false = omega arith

allow_is_field : IsField (field (codes "Allow") (codes "GET, PUT"))
unfolding is_token_byte
allow_is_field = record { name = (omega arith, AllPass-from_list_all is_token_byte (codes "Allow") refl); raw = AllPass-from_list_all is_value_byte (codes " GET, PUT") refl }

close_is_field : IsField (field (codes "Connection") (codes "close"))
unfolding is_token_byte
close_is_field = record { name = (omega arith, AllPass-from_list_all is_token_byte (codes "Connection") refl); raw = AllPass-from_list_all is_value_byte (codes " close") refl }

tail_are_fields : (a c : Bool) → All IsField (tail_fields a c)
tail_are_fields true true = All-cons IsField (field (codes "Allow") (codes "GET, PUT")) (field (codes "Connection") (codes "close") ∷ []) allow_is_field (All-cons IsField (field (codes "Connection") (codes "close")) [] close_is_field (All-nil IsField))
tail_are_fields true false = All-cons IsField (field (codes "Allow") (codes "GET, PUT")) [] allow_is_field (All-nil IsField)
tail_are_fields false true = All-cons IsField (field (codes "Connection") (codes "close")) [] close_is_field (All-nil IsField)
tail_are_fields false false = All-nil IsField

-- ---- heads

abbrev pub status_line : ℕ → List ℕ
status_line status = codes "HTTP/1.1 " ++ (decimal status ++ 32 ∷ reason status)

-- the head of an answer, as one list of parts
abbrev pub reply_block : ℕ → ℕ → Bool → Bool → List ℕ
reply_block status n a c = codes "HTTP/1.1 " ++ (decimal status ++ (32 ∷ (reason status ++ (codes "\r\nContent-Length: " ++ (decimal n ++ (ends ++ tail_text a c))))))

abbrev pub fields_of : ℕ → Bool → Bool → List Field
fields_of n a c = field (codes "Content-Length") (decimal n) ∷ tail_fields a c

abbrev pub response : ℕ → ℕ → Bool → Bool → ResponseHead
response status n a c = record { blank = []; minor = 1; digits = decimal status; reason = Some (reason status); line_end = crlf; fields = fields_of n a c; last = crlf }

parts : (v s b r z n e a c f : List ℕ) → ((((((((v ++ s) ++ b) ++ r) ++ z) ++ n) ++ e) ++ a) ++ c) ++ f ≡ v ++ (s ++ (b ++ (r ++ (z ++ (n ++ (e ++ (a ++ (c ++ f))))))))
parts v s b r z n e a c f = simp append_assoc

pub head_parts : (status n : ℕ) (close : Bool) → head_text status n close ≡ reply_block status n (status == 405) close
unfolding head_text
head_parts status n close = parts (codes "HTTP/1.1 ") (decimal status) (codes " ") (reason status) (codes "\r\nContent-Length: ") (decimal n) ends (allow_line status) (connection_line close) ends

lined : (d r z n t : List ℕ) → ((d ++ r) ++ (ends ++ ((z ++ n) ++ (ends ++ t)))) ++ ends ≡ d ++ (r ++ (ends ++ (z ++ (n ++ (ends ++ (t ++ ends))))))
lined d r z n t = simp append_assoc

pub reply_lines : (status n : ℕ) (a c : Bool) → block_of (status_line status ∷ size_line n ∷ tail_lines a c) ≡ reply_block status n a c
reply_lines status n a c =
    ap (λ z. codes "HTTP/1.1 " ++ z) (lined (decimal status) (32 ∷ reason status) (codes "Content-Length: ") (decimal n) (lines_text (tail_lines a c))
    ∙ ap (λ z. decimal status ++ (32 ∷ (reason status ++ (codes "\r\nContent-Length: " ++ (decimal n ++ (ends ++ z)))))) (tail_as_lines a c))

printed : (d r n t : List ℕ) → ((d ++ r) ++ ends) ++ ((codes "Content-Length: " ++ (n ++ ends)) ++ t) ≡ d ++ (r ++ (codes "\r\nContent-Length: " ++ (n ++ (ends ++ t))))
printed d r n t = simp append_assoc

pub reply_printed : (status n : ℕ) (a c : Bool) → reply_block status n a c ≡ print_response (response status n a c) ++ []
unfolding print_response
reply_printed status n a c =
    let size : List ℕ = codes "Content-Length: " ++ (decimal n ++ ends) in
    let others : List ℕ = flat_map print_field (tail_fields a c) in
    let first : List ℕ = (decimal status ++ 32 ∷ reason status) ++ ends in
    ap (λ z. codes "HTTP/1.1 " ++ z)
    (sym (ap (λ z. first ++ z) (append_assoc size others ends ∙ ap (λ z. size ++ z) (tail_as_fields a c)) ∙ printed (decimal status) (32 ∷ reason status) (decimal n) (tail_text a c)))
    ∙ sym (append-nil (codes "HTTP/1.1 " ++ (first ++ ((size ++ others) ++ ends))))

three_digits : (status : ℕ) → IsPlainStatus status → length (decimal status) ≡ 3
three_digits status is =
    let low = is.low in
    let high = is.high in
    let most = length-decimal-le 3 status (omega arith) (omega arith) (omega arith) in
    let least = decimal_three status low in
    omega arith

response_is : (status n : ℕ) (a c : Bool) → IsPlainStatus status → IsResponseHead (response status n a c)
response_is status n a c is = record {
  minor = omega arith;
  digits = (three_digits status is, AllPass-from_list_all is_ascii_digit (decimal status) (decimal_digits status));
  reason = AllPass-from_list_all is_value_byte (reason status) (reason_values status);
  fields = All-cons IsField (field (codes "Content-Length") (decimal n)) (tail_fields a c) (size_is_field n) (tail_are_fields a c);
}

fields_few : (n : ℕ) (a c : Bool) → length (fields_of n a c) ≤ 64
fields_few n true true = omega arith
fields_few n true false = omega arith
fields_few n false true = omega arith
fields_few n false false = omega arith

pub is_response : (status n : ℕ) (a c : Bool) → IsPlainStatus status → IsResponseOf (reply_block status n a c) (response status n a c)
is_response status n a c is = ((response_is status n a c is, reply_printed status n a c), fields_few n a c)

status_is_line : (status : ℕ) → IsLine (status_line status)
status_is_line status = record {
  some = omega arith;
  plain = all_joined is_value_byte (decimal status) (32 ∷ reason status) (values (decimal status) (decimal_visible status)) (reason_values status);
}

pub reply_is_block : (status n : ℕ) (a c : Bool) → IsBlock (reply_block status n a c)
reply_is_block status n a c = subst IsBlock (reply_lines status n a c) (lines_block (status_line status) (size_line n ∷ tail_lines a c) (status_is_line status) (size_is_line n, tail_are_lines a c))

pub reply_pairs : (status n : ℕ) (a c : Bool) → pairs (reply_block status n a c) ≤ 66
reply_pairs status n a c =
    let e : pairs (reply_block status n a c) ≡ suc (suc (suc (length (tail_lines a c)))) =
    ap pairs (sym (reply_lines status n a c)) ∙ lines_pairs (status_line status ∷ size_line n ∷ tail_lines a c) (status_is_line status, (size_is_line n, tail_are_lines a c)) in
    let few = tail_few a c in
    omega arith

pub reply_fits : (status n : ℕ) (a c : Bool) → IsPlainStatus status → n ≤ greatest_blob → length (reply_block status n a c) ≤ 16384
reply_fits status n a c is small =
    let three : length (decimal status) ≡ 3 = three_digits status is in
    let phrase = reason_short status in
    let digits = length-decimal-le 8 n (omega arith) (omega arith) (omega arith) in
    let tail = tail_short a c in
    let size : List ℕ = codes "\r\nContent-Length: " ++ (decimal n ++ (ends ++ tail_text a c)) in
    let e = length-append (decimal status) (32 ∷ (reason status ++ size)) in
    let f = length-append (reason status) size in
    let g = length-append (decimal n) (ends ++ tail_text a c) in
    omega arith

-- ---- what it says

closing : (n : ℕ) (a c : Bool) → closes_of (map name_and_value (fields_of n a c)) ≡ c
unfolding trim_ows
closing n true true = refl
closing n true false = refl
closing n false true = refl
closing n false false = refl

pub said : (status n : ℕ) (a c : Bool) → reply_of 1 status (map name_and_value (fields_of n a c))
    ≡ option_map (λ size. record { status = status; length = size; close = c }) (reply_length status (read_length (decimal n)))
unfolding reply_of
said status n a c = by a c
  where
    size : read_length (trim_ows (32 ∷ decimal n)) ≡ read_length (decimal n)
    size = ap read_length (trimmed (decimal n) (decimal_visible n))

    by : (x y : Bool) → reply_of 1 status (map name_and_value (fields_of n x y)) ≡ option_map (λ size. record { status = status; length = size; close = y }) (reply_length status (read_length (decimal n)))
    by true true = λ i. option_map (λ m. record { status = status; length = m; close = closing n true true i }) (reply_length status (size i))
    by true false = λ i. option_map (λ m. record { status = status; length = m; close = closing n true false i }) (reply_length status (size i))
    by false true = λ i. option_map (λ m. record { status = status; length = m; close = closing n false true i }) (reply_length status (size i))
    by false false = λ i. option_map (λ m. record { status = status; length = m; close = closing n false false i }) (reply_length status (size i))

-- a length that isn't too large is read, and no other
length_small : (status n : ℕ) → (status == 204) ≡ false → n ≤ greatest_blob → reply_length status (read_length (decimal n)) ≡ Some n
unfolding read_length
length_small status n other small =
    let fits : nat_lt greatest_blob n ≡ false = grind arith in
    rw (decimal_length n (omega arith), decimal_value n (omega arith), other, fits) refl

length_large : (status n : ℕ) → (status == 204) ≡ false → greatest_blob < n → reply_length status (read_length (decimal n)) ≡ None
unfolding read_length
length_large status n other large = elim (cases_lt n 10000000000000000000) [
  | inl fits ↦ (let more : nat_lt greatest_blob n ≡ true = grind arith in rw (decimal_length n fits, decimal_value n fits, other, more) refl)
  | inr huge ↦ rw (huge_length n huge) refl
]

-- ---- as the client reads it

-- the block is the head of the reply
pub is_reply_head : (status n : ℕ) (a c : Bool) → IsPlainStatus status → n ≤ greatest_blob → IsReplyHead (reply_block status n a c) (record { status = status; length = n; close = c })
is_reply_head status n a c is small = record {
  ends = reply_is_block status n a c;
  fits = reply_fits status n a c is small;
  few = reply_pairs status n a c;
  response = response status n a c;
  reads = is_response status n a c is;
  is = ap (λ z. reply_of 1 z (map name_and_value (fields_of n a c))) (decimal_value status (let h = is.high in omega arith)) ∙ said status n a c
      ∙ ap (option_map (λ m. record { status = status; length = m; close = c })) (length_small status n is.other small);
}

no_head : (head : ReplyHead) → None ≡ Some head → ⊥
no_head head e = cc

-- no block of a larger body is read
pub only_small : (status n : ℕ) (a c : Bool) (head : ReplyHead) → IsPlainStatus status → IsReplyHead (reply_block status n a c) head → n ≤ greatest_blob
only_small status n a c head is r = elim (cases_lt greatest_blob n) [
  | inr small ↦ small
  | inl large ↦ absurd (no_head head (sym (none large) ∙ same ∙ r.is))
]
  where
    same : reply_of 1 (status_code (response status n a c)) (map name_and_value (fields_of n a c)) ≡ reply_of r.response.minor (status_code r.response) (map name_and_value r.response.fields)
    same = ap (λ (h : ResponseHead). reply_of h.minor (status_code h) (map name_and_value h.fields))
        (response_unique (reply_block status n a c) (response status n a c) r.response [] [] (is_response status n a c is).0 r.reads.0).0

    none : greatest_blob < n → reply_of 1 (status_code (response status n a c)) (map name_and_value (fields_of n a c)) ≡ None
    none large = ap (λ z. reply_of 1 z (map name_and_value (fields_of n a c))) (decimal_value status (let h = is.high in omega arith)) ∙ said status n a c
        ∙ ap (option_map (λ m. record { status = status; length = m; close = c })) (length_large status n is.other large)
