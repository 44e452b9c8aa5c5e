-- Two Directories are known, and their first name decides, or two directories of that name in turn.
use Rattle.std.proofs.Common.{◌≡◌, ◌≢◌, ◌+◌, ◌-◌, ◌++◌, ◌∷◌, [], List, ℕ, ap, length, subst, sym, ◌∙◌, arith, rules}
use Rattle.std.specs.Prelude.{MatchOption, Option, Some, None, option_map}
use Rattle.std.proofs.lemmas.List.{length-append}
use Rattle.blob_digest.specs.Digest.{DigestValue}
use Rattle.messages.specs.declared.node.Node.TheVariants.{Dir}
use Rattle.messages.specs.DirectoryRules.{DirectoryValue}
use Rattle.messages.specs.Node.{child}
use Rattle.tree.specs.Comparing.{encodings_in}
use Rattle.tree.specs.Difference.{IsFirstName, child_of}
use Rattle.tree.specs.Form.{node_value}
use Rattle.tree.specs.Lookup.{names_in}
use Rattle.tree.specs.Mismatch.{FirstMismatch, IsKnownAs, IsMismatchAt, MismatchValue, mismatch_value}
use Rattle.tree.proofs.Children.{child_value}
use Rattle.tree.proofs.Mismatches.{at_others, at_below, at_two, none_known, found_at, unlike_digests}
use Rattle.tree.proofs.mismatch.+mismatch_below.Goals as goal

pub returns-in_default-2 : goal.returns-in_default-2
returns-in_default-2 g t c =
    let known = encodings_in c.args.known.now in
    let none = subst (λ o. MatchOption o ((m : DirectoryValue) → IsKnownAs known c.args.there.now m → ⊥) (λ m. IsKnownAs known c.args.there.now m)) c.in_default-2.is (c.in_ok-other.ensures {u = tt}) in
    none_known known (names_in c.args.above.now) c.args.here.now c.args.there.now c.args.deeper c.if-deeper-eq0.false (λ k m h i. none m i)

pub returns-in_default-two_directories : goal.returns-in_default-two_directories
returns-in_default-two_directories g t c =
    let known = encodings_in c.args.known.now in
    let above = names_in c.args.above.now in
    let name = c.in_ok-name.field-0.name in
    let first : IsFirstName c.in-Some.one c.in-Some-2.other name = (c.in_ok-name.ensures {u = tt}).name in
    let here : option_map node_value c.in_ok-here.here ≡ child_of name c.in-Some.one = ap (option_map node_value) (c.in_ok-here.ensures {u = tt}).exact ∙ child_value g.row.A.Denot c.as_bytes.result.now c.in-Some.one ∙ ap (λ n. child n c.in-Some.one) c.as_bytes.ensures.value in
    let there : option_map node_value c.in_ok-there.there ≡ child_of name c.in-Some-2.other = ap (option_map node_value) (c.in_ok-there.ensures {u = tt}).exact ∙ child_value g.row.A.Denot c.as_bytes-2.result.now c.in-Some-2.other ∙ ap (λ n. child n c.in-Some-2.other) c.as_bytes-2.ensures.value in
    let one = subst (λ o. MatchOption o ((m : DirectoryValue) → IsKnownAs known c.args.here.now m → ⊥) (λ m. IsKnownAs known c.args.here.now m)) c.in-Some.is (c.in_ok-one.ensures {u = tt}) in
    let other = subst (λ o. MatchOption o ((m : DirectoryValue) → IsKnownAs known c.args.there.now m → ⊥) (λ m. IsKnownAs known c.args.there.now m)) c.in-Some-2.is (c.in_ok-other.ensures {u = tt}) in
    let Next = λ (x y : DigestValue) (next : Option MismatchValue). FirstMismatch known (c.args.deeper - 1) c.in_ok-path.path x y next in
    let found = found_at known above c.args.here.now c.args.there.now c.args.deeper c.in-Some.one c.in-Some-2.other name c.in_ok-path.path (option_map node_value c.in_ok-here.here) (option_map node_value c.in_ok-there.there) in
    let others = at_others c.in_ok-path.path Next (option_map node_value c.in_ok-here.here) (option_map node_value c.in_ok-there.there) c.in_default-two_directories.ensures in
    found _ c.if-deeper-eq0.false one other first (c.in_ok-path.ensures {u = tt}) here there others

pub mismatch_below-requires : goal.mismatch_below-requires
mismatch_below-requires g t c κs within =
    let known = encodings_in c.args.known.now in
    let above = names_in c.args.above.now in
    let name = c.in_ok-name.field-0.name in
    let first : IsFirstName c.in-Some.one c.in-Some-2.other name = (c.in_ok-name.ensures {u = tt}).name in
    let here : option_map node_value c.in_ok-here.here ≡ child_of name c.in-Some.one = ap (option_map node_value) (c.in_ok-here.ensures {u = tt}).exact ∙ child_value g.row.A.Denot c.as_bytes.result.now c.in-Some.one ∙ ap (λ n. child n c.in-Some.one) c.as_bytes.ensures.value in
    let there : option_map node_value c.in_ok-there.there ≡ child_of name c.in-Some-2.other = ap (option_map node_value) (c.in_ok-there.ensures {u = tt}).exact ∙ child_value g.row.A.Denot c.as_bytes-2.result.now c.in-Some-2.other ∙ ap (λ n. child n c.in-Some-2.other) c.as_bytes-2.ensures.value in
    let path : c.in_ok-copy_of.field-0 ≡ above ++ name ∷ [] = (c.in_ok-copy_of.ensures {u = tt}) ∙ (c.in_ok-path.ensures {u = tt}) in
    let longer : length c.in_ok-copy_of.field-0 ≡ length above + 1 = ap length path ∙ length-append above (name ∷ []) in
    let both = c.in-Some-two_directories.ensures in
    let depth : c.args.deeper - 1 + length c.in_ok-copy_of.field-0 ≡ 64 = omega (arith, longer, c.requires.depth, c.if-deeper-eq0.false) in
    (omega (arith, c.decreases, c.if-deeper-eq0.false), (within, (c.requires.digests, (depth, unlike_digests (sym here ∙ both.0) (sym there ∙ both.1) first.other))))

pub returns-in-Some-3 : goal.returns-in-Some-3
returns-in-Some-3 g t c =
    let known = encodings_in c.args.known.now in
    let above = names_in c.args.above.now in
    let name = c.in_ok-name.field-0.name in
    let first : IsFirstName c.in-Some.one c.in-Some-2.other name = (c.in_ok-name.ensures {u = tt}).name in
    let here : option_map node_value c.in_ok-here.here ≡ child_of name c.in-Some.one = ap (option_map node_value) (c.in_ok-here.ensures {u = tt}).exact ∙ child_value g.row.A.Denot c.as_bytes.result.now c.in-Some.one ∙ ap (λ n. child n c.in-Some.one) c.as_bytes.ensures.value in
    let there : option_map node_value c.in_ok-there.there ≡ child_of name c.in-Some-2.other = ap (option_map node_value) (c.in_ok-there.ensures {u = tt}).exact ∙ child_value g.row.A.Denot c.as_bytes-2.result.now c.in-Some-2.other ∙ ap (λ n. child n c.in-Some-2.other) c.as_bytes-2.ensures.value in
    let one = subst (λ o. MatchOption o ((m : DirectoryValue) → IsKnownAs known c.args.here.now m → ⊥) (λ m. IsKnownAs known c.args.here.now m)) c.in-Some.is (c.in_ok-one.ensures {u = tt}) in
    let other = subst (λ o. MatchOption o ((m : DirectoryValue) → IsKnownAs known c.args.there.now m → ⊥) (λ m. IsKnownAs known c.args.there.now m)) c.in-Some-2.is (c.in_ok-other.ensures {u = tt}) in
    let Next = λ (x y : DigestValue) (next : Option MismatchValue). FirstMismatch known (c.args.deeper - 1) c.in_ok-path.path x y next in
    let found = found_at known above c.args.here.now c.args.there.now c.args.deeper c.in-Some.one c.in-Some-2.other name c.in_ok-path.path (option_map node_value c.in_ok-here.here) (option_map node_value c.in_ok-there.there) in
    let both = c.in-Some-two_directories.ensures in
    let below : Next c.in-Some-two_directories.both.0 c.in-Some-two_directories.both.1 (Some (mismatch_value c.in-Some-3.below)) = subst (λ p. FirstMismatch known (c.args.deeper - 1) p c.in-Some-two_directories.both.0 c.in-Some-two_directories.both.1 (Some (mismatch_value c.in-Some-3.below))) (c.in_ok-copy_of.ensures {u = tt})
    (subst (λ o. FirstMismatch known (c.args.deeper - 1) c.in_ok-copy_of.field-0 c.in-Some-two_directories.both.0 c.in-Some-two_directories.both.1 (option_map mismatch_value o)) c.in-Some-3.is (c.in_ok-below.ensures {u = tt})) in
    found _ c.if-deeper-eq0.false one other first (c.in_ok-path.ensures {u = tt}) here there
    (at_below c.in_ok-path.path Next (option_map node_value c.in_ok-here.here) (option_map node_value c.in_ok-there.there) c.in-Some-two_directories.both.0 c.in-Some-two_directories.both.1 _ both.0 both.1 below)

pub returns : goal.returns
returns g t c =
    let known = encodings_in c.args.known.now in
    let above = names_in c.args.above.now in
    let name = c.in_ok-name.field-0.name in
    let first : IsFirstName c.in-Some.one c.in-Some-2.other name = (c.in_ok-name.ensures {u = tt}).name in
    let here : option_map node_value c.in_ok-here.here ≡ child_of name c.in-Some.one = ap (option_map node_value) (c.in_ok-here.ensures {u = tt}).exact ∙ child_value g.row.A.Denot c.as_bytes.result.now c.in-Some.one ∙ ap (λ n. child n c.in-Some.one) c.as_bytes.ensures.value in
    let there : option_map node_value c.in_ok-there.there ≡ child_of name c.in-Some-2.other = ap (option_map node_value) (c.in_ok-there.ensures {u = tt}).exact ∙ child_value g.row.A.Denot c.as_bytes-2.result.now c.in-Some-2.other ∙ ap (λ n. child n c.in-Some-2.other) c.as_bytes-2.ensures.value in
    let one = subst (λ o. MatchOption o ((m : DirectoryValue) → IsKnownAs known c.args.here.now m → ⊥) (λ m. IsKnownAs known c.args.here.now m)) c.in-Some.is (c.in_ok-one.ensures {u = tt}) in
    let other = subst (λ o. MatchOption o ((m : DirectoryValue) → IsKnownAs known c.args.there.now m → ⊥) (λ m. IsKnownAs known c.args.there.now m)) c.in-Some-2.is (c.in_ok-other.ensures {u = tt}) in
    let Next = λ (x y : DigestValue) (next : Option MismatchValue). FirstMismatch known (c.args.deeper - 1) c.in_ok-path.path x y next in
    let found = found_at known above c.args.here.now c.args.there.now c.args.deeper c.in-Some.one c.in-Some-2.other name c.in_ok-path.path (option_map node_value c.in_ok-here.here) (option_map node_value c.in_ok-there.there) in
    let both = c.in-Some-two_directories.ensures in
    let below : Next c.in-Some-two_directories.both.0 c.in-Some-two_directories.both.1 None = subst (λ p. FirstMismatch known (c.args.deeper - 1) p c.in-Some-two_directories.both.0 c.in-Some-two_directories.both.1 None) (c.in_ok-copy_of.ensures {u = tt})
    (subst (λ o. FirstMismatch known (c.args.deeper - 1) c.in_ok-copy_of.field-0 c.in-Some-two_directories.both.0 c.in-Some-two_directories.both.1 (option_map mismatch_value o)) c.in-None.is (c.in_ok-below.ensures {u = tt})) in
    found _ c.if-deeper-eq0.false one other first (c.in_ok-path.ensures {u = tt}) here there
    (at_two c.in_ok-path.path Next (option_map node_value c.in_ok-here.here) (option_map node_value c.in_ok-there.there) c.in-Some-two_directories.both.0 c.in-Some-two_directories.both.1 both.0 both.1 below)
