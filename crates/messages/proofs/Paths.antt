-- Paths, by their text and by their names.
use Rattle.std.proofs.Common.{◌≡◌, ◌≢◌, ℕ, suc, ◌+◌, ◌<◌, Bool, true, false, cond, ltb, eqb, ◌&&◌, List, [], ◌∷◌, ◌++◌, length, take, drop, get_or, Result, Ok, Err, refl, sym, ap, subst, ◌∙◌, add-one, arith, lit<, lit≤}
use Rattle.std.specs.Prelude.{◌↔◌, IsTrue, IfOk}
use Rattle.std.proofs.lemmas.Bool.{eqb-true}
use Rattle.std.specs.List.{All, AllByRecursion, list_all, onto_first}
use Rattle.std.proofs.lemmas.List.Splits.{join_with_byte-slice_split}
use Rattle.std.specs.Str.{IsUtf8, is_utf8}
use Rattle.std.proofs.lemmas.Str.{is_utf8-from_IsUtf8, IsUtf8-from_is_utf8, IsUtf8-append, IsUtf8-nil, IsUtf8-from_ascii, IsUtf8-take, IsUtf8-drop, IsCharBoundary-at_seam, IsCharBoundary-after_ascii}
use Rattle.std.proofs.Math.Seq.{take-append_seam, get_or-append_seam}
use Rattle.std.proofs.lemmas.List.{length-append}
use Rattle.std.proofs.lemmas.List.Elements.{All-cons, All-nil}
use Rattle.std.proofs.lemmas.Str.Ascii.{IsAscii-from_all}
use Rattle.messages.specs.Gives.{GivesUnlessMemory}
use Rattle.messages.specs.declared.error.MessageError.{MessageError}
use Rattle.messages.specs.declared.error.MessageError.TheVariants.{BadPath}
use Rattle.messages.specs.Name.{IsName, is_segment}
use Rattle.messages.specs.Path.{IsPath, is_path, parts_of, path_of, path_text, path_below}
use Rattle.messages.proofs.Choices.{chosen_ok, and_first, and_second, and_both, differ}
use Rattle.messages.proofs.Names.{IsSegment-from, is_segment-from, utf8_test, few, few_test}

-- ---- cutting and joining

pub text_of_parts : (text : List ℕ) → path_text (parts_of text) ≡ text
text_of_parts text = join_with_byte-slice_split 47 text

pub data Some_part (parts : List (List ℕ)) : Type 0 where
  some_part : (first : List ℕ) (rest : List (List ℕ)) → parts ≡ first ∷ rest → Some_part parts

onto_some : (b : ℕ) (parts : List (List ℕ)) → Some_part parts → Some_part (onto_first b parts)
onto_some b parts (some_part first rest e) = some_part (b ∷ first) rest (ap (onto_first b) e)

some_behind : (b : ℕ) (t : Bool) (parts : List (List ℕ)) → Some_part parts → Some_part (cond t ([] ∷ parts) (onto_first b parts))
some_behind b true parts s = some_part [] parts refl
some_behind b false parts s = onto_some b parts s

-- a text has a part
pub part_there : (text : List ℕ) → Some_part (parts_of text)
part_there [] = some_part [] [] refl
part_there (b ∷ text) = some_behind b (eqb b 47) (parts_of text) (part_there text)

onto_front : (b : ℕ) (parts ys : List (List ℕ)) → Some_part parts → onto_first b (parts ++ ys) ≡ onto_first b parts ++ ys
onto_front b parts ys (some_part first rest e) = rw e refl

seam_step : (b : ℕ) (t : Bool) (text more : List ℕ) → parts_of (text ++ 47 ∷ more) ≡ parts_of text ++ parts_of more
    → cond t ([] ∷ parts_of (text ++ 47 ∷ more)) (onto_first b (parts_of (text ++ 47 ∷ more))) ≡ cond t ([] ∷ parts_of text) (onto_first b (parts_of text)) ++ parts_of more
seam_step b true text more e = ap (λ (l : List (List ℕ)). [] ∷ l) e
seam_step b false text more e = ap (onto_first b) e ∙ onto_front b (parts_of text) (parts_of more) (part_there text)

-- a slash parts the parts before it from those behind it
pub parts-seam : (text more : List ℕ) → parts_of (text ++ 47 ∷ more) ≡ parts_of text ++ parts_of more
parts-seam [] more = refl
parts-seam (b ∷ text) more = seam_step b (eqb b 47) text more (parts-seam text more)

one_step : (b : ℕ) (t : Bool) (text : List ℕ) → eqb b 47 ≡ t → b ≢ 47 → parts_of text ≡ text ∷ [] → cond t ([] ∷ parts_of text) (onto_first b (parts_of text)) ≡ (b ∷ text) ∷ []
one_step b true text e h one = absurd (h (eqb-true b 47 e))
one_step b false text e h one = ap (onto_first b) one

-- a text without a slash is its one part
pub parts-one : (text : List ℕ) → AllByRecursion (λ b. b ≢ 47) text → parts_of text ≡ text ∷ []
parts-one [] h = refl
parts-one (b ∷ text) h = one_step b (eqb b 47) text refl h.0 (parts-one text h.1)

-- the parts of a path's text are its names
pub parts-path_text : (name : List ℕ) (names : List (List ℕ)) → AllByRecursion IsName (name ∷ names) → parts_of (path_text (name ∷ names)) ≡ name ∷ names
parts-path_text name [] h = parts-one name h.0.segment.no_slash
parts-path_text name (next ∷ names) h =
    parts-seam name (path_text (next ∷ names)) ∙ ap (λ (l : List (List ℕ)). l ++ parts_of (path_text (next ∷ names))) (parts-one name h.0.segment.no_slash)
    ∙ ap (λ (l : List (List ℕ)). name ∷ l) (parts-path_text next names h.1)

pub parts_of_path : (path : List (List ℕ)) → IsPath path → parts_of (path_text path) ≡ path
parts_of_path [] h = absurd (none h.some) where
  none : 0 < 0 → ⊥
  none e = omega arith
parts_of_path (name ∷ names) h = parts-path_text name names h.each

-- ---- UTF-8

slash_ascii : All (λ b. b < 128) (47 ∷ [])
slash_ascii = All-cons (λ b. b < 128) 47 [] (lit< tt) (All-nil (λ b. b < 128))

slash_utf8 : (text : List ℕ) → IsUtf8 text → IsUtf8 (47 ∷ text)
slash_utf8 text u = IsUtf8-append (47 ∷ []) text (IsUtf8-from_ascii (47 ∷ []) (IsAscii-from_all (47 ∷ []) slash_ascii)) u

pub text_utf8 : (names : List (List ℕ)) → AllByRecursion IsName names → IsUtf8 (path_text names)
text_utf8 [] h = IsUtf8-nil
text_utf8 (name ∷ []) h = IsUtf8-from_is_utf8 name h.0.utf8
text_utf8 (name ∷ next ∷ names) h =
    IsUtf8-append name (47 ∷ path_text (next ∷ names)) (IsUtf8-from_is_utf8 name h.0.utf8) (slash_utf8 (path_text (next ∷ names)) (text_utf8 (next ∷ names) h.1))

drop_past : (xs ys : List ℕ) (b : ℕ) → drop (suc (length xs)) (xs ++ b ∷ ys) ≡ ys
drop_past [] ys b = refl
drop_past (x ∷ xs) ys b = drop_past xs ys b

-- a slash parts a text of UTF-8 into two
halves : (xs ys : List ℕ) → IsUtf8 (xs ++ 47 ∷ ys) → IsUtf8 xs × IsUtf8 ys
halves xs ys u =
    let bs = xs ++ 47 ∷ ys in
    let within : length xs < length bs = let e = length-append xs (47 ∷ ys) in omega arith in
    let slash : get_or bs (length xs) 0 ≡ 47 = get_or-append_seam xs 47 ys 0 in
    let ascii : get_or bs (length xs) 0 < 128 = omega arith in
    let after : IsUtf8 (drop (length xs + 1) bs) = IsUtf8-drop bs (length xs + 1) u (IsCharBoundary-after_ascii bs (length xs) u within ascii) in
    let rest : IsUtf8 ys = subst IsUtf8 (rw add-one (drop_past xs ys 47)) after in
    let front : IsUtf8 (take (length xs) bs) = IsUtf8-take bs (length xs) u (IsCharBoundary-at_seam bs xs (47 ∷ ys) refl (slash_utf8 ys rest)) in
    (subst IsUtf8 (take-append_seam xs (47 ∷ ys)) front, rest)

abbrev IsText : List ℕ → Type 0
IsText text = is_utf8 text ≡ true

joined_utf8 : (parts : List (List ℕ)) → IsUtf8 (path_text parts) → AllByRecursion IsText parts
joined_utf8 [] u = tt
joined_utf8 (part ∷ []) u = (is_utf8-from_IsUtf8 part u, tt)
joined_utf8 (part ∷ next ∷ parts) u =
    let h = halves part (path_text (next ∷ parts)) u in
    (is_utf8-from_IsUtf8 part h.0, joined_utf8 (next ∷ parts) h.1)

parts_utf8 : (text : List ℕ) → IsUtf8 text → AllByRecursion IsText (parts_of text)
parts_utf8 text u = joined_utf8 (parts_of text) (subst IsUtf8 (sym (text_of_parts text)) u)

-- ---- the test

each_name : (parts : List (List ℕ)) → AllByRecursion IsText parts → list_all is_segment parts ≡ true → AllByRecursion IsName parts
each_name [] u h = tt
each_name (part ∷ parts) u h = (record { utf8 = u.0; segment = IsSegment-from part (and_first (is_segment part) (list_all is_segment parts) h) }, each_name parts u.1 (and_second (is_segment part) (list_all is_segment parts) h))

each_segment : (names : List (List ℕ)) → AllByRecursion IsName names → list_all is_segment names ≡ true
each_segment [] h = refl
each_segment (name ∷ names) h = and_both (is_segment name) (list_all is_segment names) (is_segment-from name h.0.segment) (each_segment names h.1)

count_some : (parts : List (List ℕ)) → Some_part parts → 0 < length parts
count_some parts (some_part first rest e) = let l = ap length e in omega arith

pub IsPath-from : (text : List ℕ) → IsUtf8 text → is_path text ≡ true → IsPath (parts_of text)
IsPath-from text u h = record {
  some = count_some (parts_of text) (part_there text);
  few = few (length (parts_of text)) 64 (and_first (ltb (length (parts_of text)) 65) (list_all is_segment (parts_of text)) h);
  each = each_name (parts_of text) (parts_utf8 text u) (and_second (ltb (length (parts_of text)) 65) (list_all is_segment (parts_of text)) h);
}

pub is_path-from : (text : List ℕ) → IsPath (parts_of text) → is_path text ≡ true
is_path-from text h = and_both (ltb (length (parts_of text)) 65) (list_all is_segment (parts_of text)) (few_test (length (parts_of text)) 64 h.few) (each_segment (parts_of text) h.each)

pub and_rest : (a b : Bool) → a ≡ true → (a && b) ≡ b
and_rest true b h = refl
and_rest false b h = absurd cc

pub path_answer : (text : List ℕ) (b : Bool) → IsUtf8 text → b ≡ is_path text → IsTrue b ↔ IsPath (parts_of text)
path_answer text b u e = (λ t. IsPath-from text u (sym e ∙ t), λ h. e ∙ is_path-from text h)

-- ---- a path that is read

pub path_taken : (text : List ℕ) → IsUtf8 text → is_path text ≡ true → path_of text ≡ Ok (parts_of text)
path_taken text u h = let t = is_utf8-from_IsUtf8 text u in rw (t, h) refl

pub no_text : (text : List ℕ) → (IsUtf8 text → ⊥) → path_of text ≡ Err BadPath
no_text text isnt = let u = utf8_test text isnt in rw u refl

pub no_path : (text : List ℕ) → IsUtf8 text → is_path text ≡ false → path_of text ≡ Err BadPath
no_path text u isnt = let t = is_utf8-from_IsUtf8 text u in rw (t, isnt) refl

pub path_given : (path : List (List ℕ)) → IsPath path → path_of (path_text path) ≡ Ok path
path_given path h =
    let e = parts_of_path path h in
    path_taken (path_text path) (text_utf8 path h.each) (is_path-from (path_text path) (subst IsPath (sym e) h)) ∙ ap Ok e

pub path_found : (text : List ℕ) (path : List (List ℕ)) → path_of text ≡ Ok path → IsPath path × (text ≡ path_text path)
path_found text path e =
    let c = chosen_ok (is_utf8 text && is_path text) (parts_of text) BadPath path e in
    let u = IsUtf8-from_is_utf8 text (and_first (is_utf8 text) (is_path text) c.0) in
    (subst IsPath c.1 (IsPath-from text u (and_second (is_utf8 text) (is_path text) c.0)), sym (text_of_parts text) ∙ ap path_text c.1)

pub path_read_found : (text : List ℕ) (r : Result (List (List ℕ)) MessageError) → GivesUnlessMemory (λ p. p) r (path_of text) → IfOk r (λ path. IsPath path × (text ≡ path_text path))
path_read_found text (Ok path) given = path_found text path given
path_read_found text (Err e) given = tt

-- ---- one name

pub one_name : (name : List ℕ) → IsName name → IsPath (name ∷ [])
one_name name h = record { some = lit< tt; few = lit≤ tt; each = (h, tt) }

-- ---- one more name

more_names : (path : List (List ℕ)) (name : List ℕ) → AllByRecursion IsName path → IsName name → AllByRecursion IsName (path ++ name ∷ [])
more_names [] name h is = (is, tt)
more_names (first ∷ path) name h is = (h.0, more_names path name h.1 is)

pub one_more : (path : List (List ℕ)) (name : List ℕ) → IsPath path → IsName name → length path ≢ 64 → IsPath (path ++ name ∷ [])
one_more path name h is room =
    let len = length-append path (name ∷ []) in
    let few = h.few in
    record { some = omega arith; few = omega arith; each = more_names path name h.each is }

-- the text of a path with one more name
pub parts_below : (path : List (List ℕ)) (text name : List ℕ) → parts_of text ≡ path → IsName name → parts_of (text ++ 47 ∷ name) ≡ path ++ name ∷ []
parts_below path text name e is = parts-seam text name ∙ rw (e, parts-one name is.segment.no_slash) refl

pub below_given : (path : List (List ℕ)) (name : List ℕ) → length path ≢ 64 → path_below path name ≡ Ok (path ++ name ∷ [])
below_given path name room = let t = differ (length path) 64 (eqb (length path) 64) refl room in rw t refl
