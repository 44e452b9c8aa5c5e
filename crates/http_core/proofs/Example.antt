-- A request and a byte after it.
use Rattle.std.proofs.Common.{◌≡◌, ℕ, zero, suc, inr, false, Some, None, List, [], ◌∷◌, ◌++◌, codes, refl, sym, ◌∙◌, subst, append_assoc, arith}
use Rattle.std.specs.Prelude.{All, IsAscii}
use Rattle.std.proofs.lemmas.List.{append-nil, same_from_push}
use Rattle.std.proofs.lemmas.List.Sums.{AllPass-from_list_all}
use Rattle.std.proofs.lemmas.Str.{IsUtf8-from_ascii}
use Rattle.httparse.specs.Grammar.{RequestHead, IsField, crlf, print_request, is_token_byte, is_uri_byte, is_value_byte}
use Rattle.http_core.specs.declared.event.Area.{Area}
use Rattle.http_core.specs.declared.event.Area.TheVariants.{Ac, Cas, Pin, Unpin}
use Rattle.http_core.specs.declared.judging.Judgement.TheVariants as judgements
use Rattle.http_core.specs.Block.{EndsBlock, HasNoBlock, IsBlock}
use Rattle.http_core.specs.Event.{EventValue, Refused}
use Rattle.http_core.specs.Judging.{Judges, IsHeadOf}
use Rattle.http_core.specs.Rules.{JudgesHead, Names, refused_status}
use Rattle.http_core.specs.Session.{Reading, Closed, SessionValue, Holds, Follows, Stands, Feeds, FeedsAll}
use Rattle.http_core.specs.Stream.{Completes, Cuts}
use Rattle.http_core.proofs.Blocks.{block_with, no_block_with, no_block_through}
use Rattle.http_core.proofs.Standing.{holds_partial, nothing_held, stands_first, stands_on, stands_event}

-- a GET of what no area has
abbrev pub get : List ℕ
get = codes "GET / HTTP/1.1\r\nHost: a\r\n\r\n"

abbrev pub gone : EventValue
gone = Refused 404 false

-- its parts
abbrev head : RequestHead
head = record {
  blank = [];
  method = codes "GET";
  target = codes "/";
  minor = 1;
  line_end = crlf;
  fields = record { name = codes "Host"; raw = codes " a"; end = crlf } ∷ [];
  last = crlf;
}

-- ---- its block

-- what ends in CR LF CR LF has a line feed before the last CR LF
third_is : (bytes : List ℕ) (byte : ℕ) → EndsBlock (bytes ++ byte ∷ 13 ∷ 10 ∷ []) → byte ≡ 10
third_is bytes byte (front, e) =
    let one : (bytes ++ byte ∷ 13 ∷ []) ++ 10 ∷ [] ≡ (front ++ 13 ∷ 10 ∷ 13 ∷ []) ++ 10 ∷ [] = append_assoc bytes (byte ∷ 13 ∷ []) (10 ∷ []) ∙ e ∙ sym (append_assoc front (13 ∷ 10 ∷ 13 ∷ []) (10 ∷ [])) in
    let two : (bytes ++ byte ∷ []) ++ 13 ∷ [] ≡ (front ++ 13 ∷ 10 ∷ []) ++ 13 ∷ [] = append_assoc bytes (byte ∷ []) (13 ∷ []) ∙ (same_from_push _ _ 10 10 one).0 ∙ sym (append_assoc front (13 ∷ 10 ∷ []) (13 ∷ [])) in
    let three : bytes ++ byte ∷ [] ≡ (front ++ 13 ∷ []) ++ 10 ∷ [] = (same_from_push _ _ 13 13 two).0 ∙ sym (append_assoc front (13 ∷ []) (10 ∷ [])) in
    (same_from_push bytes (front ++ 13 ∷ []) byte 10 three).1

first_line : HasNoBlock (codes "GET / HTTP/1.1\r\n")
first_line = no_block_with (codes "GET / HTTP/1.1\r") 10
    (no_block_through [] (codes "GET / HTTP/1.1\r") (nothing_held []).1 (grind arith))
    (λ h. let no : 49 ≡ 10 = third_is (codes "GET / HTTP/1.") 49 h in omega arith)

second_line : HasNoBlock (codes "GET / HTTP/1.1\r\nHost: a\r\n")
second_line = no_block_with (codes "GET / HTTP/1.1\r\nHost: a\r") 10
    (no_block_through (codes "GET / HTTP/1.1\r\n") (codes "Host: a\r") first_line (grind arith))
    (λ h. let no : 97 ≡ 10 = third_is (codes "GET / HTTP/1.1\r\nHost: ") 97 h in omega arith)

get_ends : IsBlock get
get_ends = block_with (codes "GET / HTTP/1.1\r\nHost: a\r\n\r") 10
    (no_block_through (codes "GET / HTTP/1.1\r\nHost: a\r\n") (13 ∷ []) second_line (grind arith))
    (codes "GET / HTTP/1.1\r\nHost: a", refl)

-- ---- its judgement

slash_is_ascii : IsAscii (codes "/")
slash_is_ascii zero = omega arith
slash_is_ascii (suc k) = omega arith

fields_are : All IsField head.fields
unfolding is_token_byte
fields_are zero d within = record { name = (omega arith, AllPass-from_list_all is_token_byte (codes "Host") refl); raw = AllPass-from_list_all is_value_byte (codes " a") refl }
fields_are (suc k) d within = absurd (omega (arith, within))

head_is : IsHeadOf get head
unfolding print_request is_token_byte
head_is = (
  (
    record {
      method = (omega arith, AllPass-from_list_all is_token_byte (codes "GET") refl);
      target = (omega arith, AllPass-from_list_all is_uri_byte (codes "/") refl);
      target_text = IsUtf8-from_ascii (codes "/") slash_is_ascii;
      minor = omega arith;
      fields = fields_are;
    },
    refl,
  ),
  omega arith,
)

no_area : (area : Area) (hash : List ℕ) → Names [] false (codes "/") area hash → ⊥
no_area Ac hash n = let no : codes "/" ≡ codes "/ac/" ++ _ = n.text in cc
no_area Cas hash n = let no : codes "/" ≡ codes "/cas/" ++ _ = n.text in cc
no_area Pin hash n = let no : codes "/" ≡ codes "/pin/" ++ _ = n.text in cc
no_area Unpin hash n = let no : codes "/" ≡ codes "/unpin/" ++ _ = n.text in cc

judged : JudgesHead [] head (judgements.Refuse 404 false)
unfolding refused_status
judged = inr (no_area, refl)

get_judged : Judges [] get (judgements.Refuse 404 false)
unfolding Judges
get_judged = inr (inr (omega arith, head, head_is, judged))

pub get_completes : Completes [] get gone
get_completes = inr (record { block = get; body = []; judgement = judgements.Refuse 404 false; whole = refl; ends = get_ends; fits = omega arith; judged = get_judged; full = refl; gives = refl })

-- ---- its cut, and that with a byte more

more_held : Holds [] (Reading (71 ∷ [])) (71 ∷ [])
more_held = (refl, no_block_through [] (71 ∷ []) (nothing_held []).1 (grind arith), omega arith)

pub get_cut : Cuts [] get (gone ∷ []) (Some [])
unfolding Cuts
get_cut = (get, [], refl, get_completes, inr (refl, (holds_partial [] (Reading []) [] (nothing_held []), refl)))

pub more_cut : Cuts [] (get ++ 71 ∷ []) (gone ∷ []) (Some (71 ∷ []))
unfolding Cuts
more_cut = (get, 71 ∷ [], refl, get_completes, inr (refl, (holds_partial [] (Reading (71 ∷ [])) (71 ∷ []) more_held, refl)))

-- ---- fed in one piece, and in two

abbrev pub before : SessionValue
before = record { prefix = []; state = Reading [] }

abbrev pub after : SessionValue
after = record { prefix = []; state = Reading (71 ∷ []) }

opened : before.state ≡ Closed → ⊥
opened e = cc

get_moves : (rest : List ℕ) → Holds [] (Reading []) rest → Follows [] (rest ++ get) (Some gone) (Reading [])
get_moves rest h = (subst (λ z. Completes [] (z ++ get) gone) (sym h.0) get_completes, refl)

more_moves : (rest : List ℕ) → Holds [] (Reading []) rest → Follows [] (rest ++ 71 ∷ []) None (Reading (71 ∷ []))
more_moves rest h = subst (λ z. Holds [] (Reading (71 ∷ [])) (z ++ 71 ∷ [])) (sym h.0) more_held

get_fed : Feeds before get (gone ∷ []) before
get_fed = record {
  stands = λ stream told s. stands_event before before stream get told gone refl opened get_moves s;
  closed = λ e. absurd (opened e);
  valid = (tt, tt);
  prefix = refl;
}

more_fed : Feeds before (71 ∷ []) [] after
more_fed = record {
  stands = λ stream told s. subst (Stands after (stream ++ 71 ∷ [])) (sym (append-nil told)) (stands_on before after stream (71 ∷ []) told refl opened more_moves s);
  closed = λ e. absurd (opened e);
  valid = tt;
  prefix = refl;
}

whole_fed : Feeds before (get ++ 71 ∷ []) (gone ∷ []) after
whole_fed = record {
  stands = λ stream told s.
      subst (λ z. Stands after z (told ++ gone ∷ [])) (append_assoc stream get (71 ∷ []))
      (stands_on before after (stream ++ get) (71 ∷ []) (told ++ gone ∷ []) refl opened more_moves
      (stands_event before before stream get told gone refl opened get_moves s));
  closed = λ e. absurd (opened e);
  valid = (tt, tt);
  prefix = refl;
}

pub fed_in_two : FeedsAll before (get ∷ (71 ∷ []) ∷ []) (gone ∷ []) after
fed_in_two = (gone ∷ [], before, [], get_fed, ([], after, [], more_fed, (refl, refl), refl), refl)

pub fed_in_one : FeedsAll before ((get ++ 71 ∷ []) ∷ []) (gone ∷ []) after
fed_in_one = (gone ∷ [], after, [], whole_fed, (refl, refl), refl)

pub stands_before : Stands before [] []
stands_before = stands_first []
