-- All of an open file.
use Rattle.std.proofs.Common.{◌≡◌, ◌∙◌, ℕ, ◌<◌, ◌++◌, List, [], Option, Some, None, ap, arith, length, length-take, subst, take, take_all}
use Rattle.std.specs.Prelude.{IfSome, OnOk, option_map}
use Rattle.std.specs.Io.Take.{take_inner, take_limit, take_remaining}
use Rattle.std.specs.declared.io.traits.Take.{Take}
use Rattle.remote.proofs.files.read_whole.Goals as goal

-- the bytes are a front of what is known of the file
front_of : {R : Type 0} (known : R → Option (List ℕ)) (file : R) (front : Take R) (n : ℕ) (before bytes : List ℕ) → take_inner front ≡ file → take_limit front ≡ n → before ≡ []
    → IfSome (take_remaining known front) (λ xs. bytes ≡ before ++ xs) → IfSome (known file) (λ all. bytes ≡ take n all)
front_of known file front n before bytes of is none h = subst (λ x. IfSome (known x) (λ all. bytes ≡ take n all)) of (by (known (take_inner front)) h)
  where
    by : (o : Option (List ℕ)) → IfSome (option_map (take (take_limit front)) o) (λ xs. bytes ≡ before ++ xs) → IfSome o (λ all. bytes ≡ take n all)
    by None h = tt
    by (Some all) h = h ∙ ap (λ b. b ++ take (take_limit front) all) none ∙ ap (λ k. take k all) is

-- they are all of it, where they are fewer than such a front may have
whole_of : (known : Option (List ℕ)) (n : ℕ) (bytes : List ℕ) → IfSome known (λ all. bytes ≡ take n all) → length bytes < n → IfSome known (λ all. bytes ≡ all)
whole_of None n bytes h few = tt
whole_of (Some all) n bytes h few = h ∙ take_all n all (omega (arith, few, ap length h, length-take n all))

-- more than so many came, so it has more
more_of : (known : Option (List ℕ)) (n : ℕ) (bytes : List ℕ) (m : ℕ) → IfSome known (λ all. bytes ≡ take n all) → m < length bytes → IfSome known (λ all. m < length all)
more_of None n bytes m h few = tt
more_of (Some all) n bytes m h few = omega (arith, few, ap length h, length-take n all)

pub returns-then-len-gt-GREATEST_FILE-clause-large : goal.returns-then-len-gt-GREATEST_FILE-clause-large
returns-then-len-gt-GREATEST_FILE-clause-large g c p is =
    let known = g.F.Read.remaining in
    let front = c.take-front.result in
    let bytes = c.read_to_end.new.buf in
    let came = subst (λ r. OnOk r (IfSome (take_remaining known front) (λ xs. bytes.items ≡ c.in_ok-bytes.bytes.items ++ xs))) c.in_ok-checked_read.ensures.same c.read_to_end.ensures.bytes in
    more_of (known c.args.file) 16777217 bytes.items 16777216
    (front_of known c.args.file front 16777217 c.in_ok-bytes.bytes.items bytes.items c.take-front.ensures.inner c.take-front.ensures.limit c.in_ok-bytes.ensures.items came)
    (let ok = bytes.ok in omega (arith, ok))

pub returns-clause-whole : goal.returns-clause-whole
returns-clause-whole g c =
    let known = g.F.Read.remaining in
    let front = c.take-front.result in
    let bytes = c.read_to_end.new.buf in
    let came = subst (λ r. OnOk r (IfSome (take_remaining known front) (λ xs. bytes.items ≡ c.in_ok-bytes.bytes.items ++ xs))) c.in_ok-checked_read.ensures.same c.read_to_end.ensures.bytes in
    whole_of (known c.args.file) 16777217 bytes.items
    (front_of known c.args.file front 16777217 c.in_ok-bytes.bytes.items bytes.items c.take-front.ensures.inner c.take-front.ensures.limit c.in_ok-bytes.ensures.items came)
    (let ok = bytes.ok in omega (arith, ok))
