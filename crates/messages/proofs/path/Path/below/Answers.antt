use Rattle.std.proofs.Common.{◌≡◌, ◌≢◌, ℕ, List, [], ◌∷◌, ◌++◌, length, Ok, sym, ap, subst, ◌∙◌, append_assoc}
use Rattle.std.specs.String.{string_bytes}
use Rattle.messages.specs.Path.{IsPath, parts_of}
use Rattle.messages.proofs.Paths.{parts_below, below_given, one_more}
use Rattle.messages.proofs.path.Path.below.Goals as goal

pub invariant_of-result : goal.invariant_of-result
unfolding lib.Utf8.encode
invariant_of-result g c =
    let path = c.args.parent.now in
    let name = c.args.name.now in
    let text = c.as_str-2.result.now in
    let room : length path ≢ 64 = λ e. c.if-part_count-eq64.false (c.part_count.ensures ∙ ap length c.as_str.ensures.parts ∙ e) in
    let slash : string_bytes c.push.new.self ≡ text ++ 47 ∷ [] = c.in_ok-push.ensures.bytes ∙ ap (λ (l : List ℕ). l ++ 47 ∷ []) c.in_ok-text.ensures.ok in
    let whole : string_bytes c.push_str.new.self ≡ text ++ 47 ∷ name = c.in_ok-push_str.ensures.bytes ∙ rw (slash, c.as_str-3.ensures.value) (append_assoc text (47 ∷ []) name) in
    let parts : parts_of (string_bytes c.push_str.new.self) ≡ path ++ name ∷ [] = ap parts_of whole ∙ parts_below path text name c.as_str-2.ensures.parts c.as_str-3.ensures.valid in
    subst IsPath (sym parts) (one_more path name c.as_str-2.ensures.valid c.as_str-3.ensures.valid room)

pub returns-clause-exact : goal.returns-clause-exact
unfolding lib.Utf8.encode
returns-clause-exact g c =
    let path = c.args.parent.now in
    let name = c.args.name.now in
    let text = c.as_str-2.result.now in
    let room : length path ≢ 64 = λ e. c.if-part_count-eq64.false (c.part_count.ensures ∙ ap length c.as_str.ensures.parts ∙ e) in
    let slash : string_bytes c.push.new.self ≡ text ++ 47 ∷ [] = c.in_ok-push.ensures.bytes ∙ ap (λ (l : List ℕ). l ++ 47 ∷ []) c.in_ok-text.ensures.ok in
    let whole : string_bytes c.push_str.new.self ≡ text ++ 47 ∷ name = c.in_ok-push_str.ensures.bytes ∙ rw (slash, c.as_str-3.ensures.value) (append_assoc text (47 ∷ []) name) in
    let parts : parts_of (string_bytes c.push_str.new.self) ≡ path ++ name ∷ [] = ap parts_of whole ∙ parts_below path text name c.as_str-2.ensures.parts c.as_str-3.ensures.valid in
    below_given path name room ∙ ap Ok (sym parts)
