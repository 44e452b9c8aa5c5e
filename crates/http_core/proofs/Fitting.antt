-- What a judgement lets a request ask.
use Rattle.std.proofs.Common.{◌≡◌, ℕ, ◌≤◌, inl, inr, Bool, true, false, nat_lt, Option, Some, None, List, [], ◌∷◌, sym, subst, arith, refl, ◌++◌, map, ◌||◌}
use Rattle.std.specs.Prelude.{MatchOption}
use Rattle.httparse.specs.Grammar.{RequestHead}
use Rattle.httparse.specs.Spans.{name_and_value}
use Rattle.std.specs.List.{AllByRecursion}
use Rattle.blob_digest.specs.Body.{greatest_blob}
use Rattle.http_core.specs.declared.event.Area.{Area}
use Rattle.http_core.specs.declared.judging.Judgement.{Judgement}
use Rattle.http_core.specs.declared.judging.Judgement.TheVariants as judgements
use Rattle.http_core.specs.Connection.{closes_of}
use Rattle.http_core.specs.Judging.{Judges}
use Rattle.http_core.specs.Rules.{first_status, rules_of, refused_status, is_put, length_of, body_size, asked, Targets}
use Rattle.http_core.specs.Event.{EventValue, IsValid, is_served}
use Rattle.http_core.specs.Stream.{body_length, outcome}

none_apply : (rules : List (Bool × ℕ)) → first_status rules ≡ None → AllByRecursion (λ r. r.0 ≡ false) rules
none_apply [] e = tt
none_apply ((true, status) ∷ rules) e = cc
none_apply ((false, status) ∷ rules) e = (refl, none_apply rules e)

not_more : (n : ℕ) → nat_lt greatest_blob n ≡ false → n ≤ greatest_blob
not_more n e = grind arith

pub size_fits : (minor : ℕ) (method : List ℕ) (fields : List (List ℕ × List ℕ)) → refused_status minor method fields ≡ None → body_size (length_of fields) ≤ greatest_blob
unfolding refused_status
size_fits minor method fields e =
    let all : AllByRecursion (λ r. r.0 ≡ false) (rules_of minor method fields) = none_apply (rules_of minor method fields) e in
    not_more (body_size (length_of fields)) all.1.1.1.1.1.1.1.0

-- its body is not too large, and a GET is served
abbrev pub IsAllowed : Judgement → Type 0
IsAllowed j = (body_length j ≤ greatest_blob) × IsValid (outcome j [])

asked_allowed : (put close : Bool) (size : ℕ) (area : Area) (hash : List ℕ) → size ≤ greatest_blob → is_served put area ≡ true → IsAllowed (asked put size close area hash)
asked_allowed true close size area hash h e = (h, omega arith)
asked_allowed false close size area hash h e = (omega arith, e)

refuse_allowed : (status : ℕ) (close : Bool) → IsAllowed (judgements.Refuse status close)
refuse_allowed status close = (omega arith, tt)

targets_allowed : (prefix : List ℕ) (put close : Bool) (target : List ℕ) (size : ℕ) (j : Judgement)
    → size ≤ greatest_blob → Targets prefix put close target size j → IsAllowed j
targets_allowed prefix put close target size j h (inl (area, hash, m, e)) = subst IsAllowed (sym e) (asked_allowed put close size area hash h m.served)
targets_allowed prefix put close target size j h (inr (none, e)) = subst IsAllowed (sym e) (refuse_allowed 404 (put || close))

judged_allowed : (prefix : List ℕ) (h : RequestHead) (status : Option ℕ) (j : Judgement) → refused_status h.minor h.method (map name_and_value h.fields) ≡ status
    → MatchOption status (Targets prefix (is_put h.method) (closes_of (map name_and_value h.fields)) h.target (body_size (length_of (map name_and_value h.fields))) j) (λ s. j ≡ judgements.Refuse s true) → IsAllowed j
judged_allowed prefix h (Some status) j e is = subst IsAllowed (sym is) (refuse_allowed status true)
judged_allowed prefix h None j e is =
    let fields = map name_and_value h.fields in
    targets_allowed prefix (is_put h.method) (closes_of fields) h.target (body_size (length_of fields)) j (size_fits h.minor h.method fields e) is

pub allowed : (prefix block : List ℕ) (j : Judgement) → Judges prefix block j → IsAllowed j
unfolding Judges
allowed prefix block j (inl x) = subst IsAllowed (sym x.1) (refuse_allowed 431 true)
allowed prefix block j (inr (inl x)) = subst IsAllowed (sym x.2) (refuse_allowed 400 true)
allowed prefix block j (inr (inr x)) = judged_allowed prefix x.1 (refused_status x.1.minor x.1.method (map name_and_value x.1.fields)) j refl x.3

pub valid_with : (events : List EventValue) (event : EventValue) → AllByRecursion IsValid events → IsValid event → AllByRecursion IsValid (events ++ event ∷ [])
valid_with [] event all h = (h, tt)
valid_with (e ∷ events) event (first, all) h = (first, valid_with events event all h)
