-- Lines that end in CR LF, and the block that they and an empty line make.
use Rattle.std.proofs.Common.{◌≡◌, ◌≢◌, ℕ, suc, ◌+◌, ◌<◌, ◌==◌, ◌&&◌, Bool, true, false, List, [], ◌∷◌, ◌++◌, length, refl, sym, ◌∙◌, ap, subst, append_assoc, arith}
use Rattle.std.specs.List.{AllByRecursion, list_all}
use Rattle.std.proofs.lemmas.List.{same_from_push}
use Rattle.httparse.specs.Grammar.{is_value_byte}
use Rattle.http_core.specs.Block.{EndsBlock, HasNoBlock, IsBlock}
use Rattle.http_core.specs.Judging.{pairs}
use Rattle.http_core.proofs.Blocks.{block_with, no_block_with, no_block_through}
use Rattle.http_core.proofs.Pairs.{pairs_behind, pairs_from}

-- a line that has bytes, none of them CR or LF
pub record IsLine (line : List ℕ) : Type 0 where
  pub some : 0 < length line
  pub plain : list_all is_value_byte line ≡ true

-- the lines, each with its end
abbrev pub lines_text : List (List ℕ) → List ℕ
lines_text [] = []
lines_text (l ∷ ls) = l ++ 13 ∷ 10 ∷ lines_text ls

pub both : (a b : Bool) → (a && b) ≡ true → (a ≡ true) × (b ≡ true)
both true b e = (refl, e)
both false b e = absurd cc

not_byte : (n b : ℕ) → is_value_byte n ≡ false → is_value_byte b ≡ true → b ≢ n
not_byte n b f t e = let no : true ≡ false = sym t ∙ ap is_value_byte e ∙ f in cc

no_feeds : (l : List ℕ) → list_all is_value_byte l ≡ true → AllByRecursion (λ b. b ≢ 10) l
no_feeds [] h = tt
no_feeds (b ∷ l) h = let k = both (is_value_byte b) (list_all is_value_byte l) h in (not_byte 10 b refl k.0, no_feeds l k.1)

-- ---- blocks

-- what ends in CR LF CR LF has a line feed before the last CR LF
third_is : (bytes : List ℕ) (byte : ℕ) → EndsBlock (bytes ++ byte ∷ 13 ∷ 10 ∷ []) → byte ≡ 10
third_is bytes byte (front, e) =
    let one : (bytes ++ byte ∷ 13 ∷ []) ++ 10 ∷ [] ≡ (front ++ 13 ∷ 10 ∷ 13 ∷ []) ++ 10 ∷ [] = append_assoc bytes (byte ∷ 13 ∷ []) (10 ∷ []) ∙ e ∙ sym (append_assoc front (13 ∷ 10 ∷ 13 ∷ []) (10 ∷ [])) in
    let two : (bytes ++ byte ∷ []) ++ 13 ∷ [] ≡ (front ++ 13 ∷ 10 ∷ []) ++ 13 ∷ [] = append_assoc bytes (byte ∷ []) (13 ∷ []) ∙ (same_from_push _ _ 10 10 one).0 ∙ sym (append_assoc front (13 ∷ 10 ∷ []) (13 ∷ [])) in
    let three : bytes ++ byte ∷ [] ≡ (front ++ 13 ∷ []) ++ 10 ∷ [] = (same_from_push _ _ 13 13 two).0 ∙ sym (append_assoc front (13 ∷ []) (10 ∷ [])) in
    (same_from_push bytes (front ++ 13 ∷ []) byte 10 three).1

-- the last byte of a line
record HasLast (line : List ℕ) : Type 0 where
  pub front : List ℕ
  pub last : ℕ
  pub is : line ≡ front ++ last ∷ []
  pub other : last ≢ 10

last_of : (line : List ℕ) → IsLine line → HasLast line
last_of [] h = absurd (let no = h.some in omega arith)
last_of (b ∷ []) h = record { front = []; last = b; is = refl; other = (no_feeds (b ∷ []) h.plain).0 }
last_of (b ∷ c ∷ line) h =
    let more = last_of (c ∷ line) (record { some = omega arith; plain = (both (is_value_byte b) (list_all is_value_byte (c ∷ line)) h.plain).1 }) in
    record { front = b ∷ more.front; last = more.last; is = ap (λ z. b ∷ z) more.is; other = more.other }

no_block_line : (before line : List ℕ) → HasNoBlock before → IsLine line → HasNoBlock (before ++ (line ++ 13 ∷ 10 ∷ []))
no_block_line before line none is =
    let last = last_of line is in
    let through : HasNoBlock (before ++ line) = no_block_through before line none (no_feeds line is.plain) in
    let return_ : HasNoBlock ((before ++ line) ++ 13 ∷ []) = no_block_through (before ++ line) (13 ∷ []) through (grind arith) in
    let shape : ((before ++ line) ++ 13 ∷ []) ++ 10 ∷ [] ≡ (before ++ last.front) ++ last.last ∷ 13 ∷ 10 ∷ [] =
    append_assoc (before ++ line) (13 ∷ []) (10 ∷ []) ∙ ap (λ z. (before ++ z) ++ 13 ∷ 10 ∷ []) last.is ∙ ap (λ z. z ++ 13 ∷ 10 ∷ []) (sym (append_assoc before last.front (last.last ∷ [])))
    ∙ append_assoc (before ++ last.front) (last.last ∷ []) (13 ∷ 10 ∷ []) in
    let whole : HasNoBlock (((before ++ line) ++ 13 ∷ []) ++ 10 ∷ []) =
    no_block_with ((before ++ line) ++ 13 ∷ []) 10 return_ (λ h. last.other (third_is (before ++ last.front) last.last (subst EndsBlock shape h))) in
    subst HasNoBlock (append_assoc (before ++ line) (13 ∷ []) (10 ∷ []) ∙ append_assoc before line (13 ∷ 10 ∷ [])) whole

-- an empty line ends the block
block_ended : (front : List ℕ) → HasNoBlock (front ++ 13 ∷ 10 ∷ []) → IsBlock ((front ++ 13 ∷ 10 ∷ []) ++ 13 ∷ 10 ∷ [])
block_ended front none =
    let lines : List ℕ = front ++ 13 ∷ 10 ∷ [] in
    let return_ : HasNoBlock (lines ++ 13 ∷ []) = no_block_through lines (13 ∷ []) none (grind arith) in
    let shape : (lines ++ 13 ∷ []) ++ 10 ∷ [] ≡ lines ++ 13 ∷ 10 ∷ [] = append_assoc lines (13 ∷ []) (10 ∷ []) in
    let ends : EndsBlock ((lines ++ 13 ∷ []) ++ 10 ∷ []) = (front, shape ∙ append_assoc front (13 ∷ 10 ∷ []) (13 ∷ 10 ∷ [])) in
    subst IsBlock shape (block_with (lines ++ 13 ∷ []) 10 return_ ends)

blocks_from : (front : List ℕ) (ls : List (List ℕ)) → HasNoBlock (front ++ 13 ∷ 10 ∷ []) → AllByRecursion IsLine ls
    → IsBlock ((front ++ 13 ∷ 10 ∷ []) ++ (lines_text ls ++ 13 ∷ 10 ∷ []))
blocks_from front [] none all = block_ended front none
blocks_from front (l ∷ ls) none (is, all) =
    let lines : List ℕ = front ++ 13 ∷ 10 ∷ [] in
    let more : HasNoBlock (lines ++ (l ++ 13 ∷ 10 ∷ [])) = no_block_line lines l none is in
    let shape : lines ++ (l ++ 13 ∷ 10 ∷ []) ≡ (lines ++ l) ++ 13 ∷ 10 ∷ [] = sym (append_assoc lines l (13 ∷ 10 ∷ [])) in
    let rest : IsBlock (((lines ++ l) ++ 13 ∷ 10 ∷ []) ++ (lines_text ls ++ 13 ∷ 10 ∷ [])) = blocks_from (lines ++ l) ls (subst HasNoBlock shape more) all in
    subst IsBlock
    (append_assoc (lines ++ l) (13 ∷ 10 ∷ []) (lines_text ls ++ 13 ∷ 10 ∷ []) ∙ append_assoc lines l (13 ∷ 10 ∷ (lines_text ls ++ 13 ∷ 10 ∷ []))
    ∙ ap (λ z. lines ++ z) (sym (append_assoc l (13 ∷ 10 ∷ lines_text ls) (13 ∷ 10 ∷ []))))
    rest

no_block_empty : HasNoBlock []
no_block_empty [] rest e ([], f) = absurd cc
no_block_empty [] rest e (b ∷ front, f) = absurd cc
no_block_empty (b ∷ front) rest e h = absurd cc

-- lines and an empty line are a block
pub lines_block : (l : List ℕ) (ls : List (List ℕ)) → IsLine l → AllByRecursion IsLine ls → IsBlock (lines_text (l ∷ ls) ++ 13 ∷ 10 ∷ [])
lines_block l ls is all =
    subst IsBlock (append_assoc l (13 ∷ 10 ∷ []) (lines_text ls ++ 13 ∷ 10 ∷ []) ∙ sym (append_assoc l (13 ∷ 10 ∷ lines_text ls) (13 ∷ 10 ∷ [])))
    (blocks_from l ls (no_block_line [] l no_block_empty is) all)

-- ---- how many they are

value_not : (n b : ℕ) → is_value_byte n ≡ false → is_value_byte b ≡ true → (b == n) ≡ false
value_not n b f t = by (b == n) refl
  where
    by : (x : Bool) → (b == n) ≡ x → x ≡ false
    by false e = refl
    by true e = absurd (not_byte n b f t (grind arith))

behind_line : (l rest : List ℕ) → list_all is_value_byte l ≡ true → pairs_behind false (l ++ 13 ∷ 10 ∷ rest) ≡ suc (pairs_behind false rest)
behind_line [] rest h = omega arith
behind_line (b ∷ l) rest h =
    let k = both (is_value_byte b) (list_all is_value_byte l) h in
    let zero_more : pairs_behind false ((b ∷ l) ++ 13 ∷ 10 ∷ rest) ≡ pairs_behind (b == 13) (l ++ 13 ∷ 10 ∷ rest) = omega arith in
    zero_more ∙ ap (λ z. pairs_behind z (l ++ 13 ∷ 10 ∷ rest)) (value_not 13 b refl k.0) ∙ behind_line l rest k.1

behind_lines : (ls : List (List ℕ)) → AllByRecursion IsLine ls → pairs_behind false (lines_text ls ++ 13 ∷ 10 ∷ []) ≡ suc (length ls)
behind_lines [] all = omega arith
behind_lines (l ∷ ls) (is, all) =
    ap (pairs_behind false) (append_assoc l (13 ∷ 10 ∷ lines_text ls) (13 ∷ 10 ∷ [])) ∙ behind_line l (lines_text ls ++ 13 ∷ 10 ∷ []) is.plain ∙ ap suc (behind_lines ls all)

pub lines_pairs : (ls : List (List ℕ)) → AllByRecursion IsLine ls → pairs (lines_text ls ++ 13 ∷ 10 ∷ []) ≡ suc (length ls)
lines_pairs ls all = sym (pairs_from (lines_text ls ++ 13 ∷ 10 ∷ [])) ∙ behind_now
  where
    behind_now : 0 + pairs_behind false (lines_text ls ++ 13 ∷ 10 ∷ []) ≡ suc (length ls)
    behind_now = let e = behind_lines ls all in omega (arith, e)
