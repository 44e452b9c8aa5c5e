use Rattle.std.proofs.Common.{◌≡◌, ℕ, ◌-◌, ◌<◌, ◌≤◌, ◌++◌, List, Option, Some, Result, Ok, Err, IfOk, take, drop, length, sym, ◌∙◌, ap, subst, arith}
use Rattle.std.specs.Io.{WritesAtMost}
use Rattle.cache_server.specs.Answer.{AnswerValue}
use Rattle.service.specs.Member.{MemberValue, unsent_of}
use Rattle.service.specs.Sockets.{SendsTo}
use Rattle.service.proofs.Sending.{body_front, head_front, taken_within}
use Rattle.service.proofs.member.Member.write_some.Goals as goal

-- what was sent of the bytes is a front of what wasn't sent
sent_front : {S E : Type 0} (spoke : ℕ → S → List ℕ → List ℕ → Type 0) (old before new : S) (r : Result ℕ E) (bytes unsent : List ℕ)
    → old ≡ before → ((count : ℕ) → count ≤ length bytes → take count bytes ≡ take count unsent)
    → WritesAtMost r bytes → IfOk r (λ count. SendsTo spoke old (take count bytes) new) → IfOk r (λ count. SendsTo spoke before (take count unsent) new)
sent_front {S} spoke old before new (Ok count) bytes unsent e same bound sends =
    subst (λ (z : S). SendsTo spoke z (take count unsent) new) e (subst (λ (z : List ℕ). SendsTo spoke old z new) (same count bound) sends)
sent_front spoke old before new (Err fault) bytes unsent e same bound sends = sends

-- and no more of them than those were
sent_few : {E : Type 0} (r : Result ℕ E) (bytes unsent : List ℕ) → ((count : ℕ) → count ≤ length bytes → take count bytes ≡ take count unsent) → WritesAtMost r bytes → IfOk r (λ count. count ≤ length unsent)
sent_few (Ok count) bytes unsent same bound = taken_within count bytes unsent bound (same count bound)
sent_few (Err fault) bytes unsent same bound = tt

whole_text : (s : ℕ) (answer : AnswerValue) (o : Option AnswerValue) (head body unsent : List ℕ) → unsent_of o s ≡ unsent → o ≡ Some answer → head ≡ answer.head → body ≡ answer.body
    → unsent ≡ drop s (head ++ body)
whole_text s answer o head body unsent v is p q =
    sym v ∙ ap (λ (z : Option AnswerValue). unsent_of z s) is ∙ ap (drop s) (ap (λ (z : List ℕ). z ++ answer.body) (sym p) ∙ ap (λ (z : List ℕ). head ++ z) (sym q))

body_case : (s : ℕ) (answer : AnswerValue) (o : Option AnswerValue) (head body next unsent : List ℕ) → unsent_of o s ≡ unsent → o ≡ Some answer → head ≡ answer.head → body ≡ answer.body
    → next ≡ take 262144 (drop (s - length head) body) → length head ≤ s → (count : ℕ) → count ≤ length next → take count next ≡ take count unsent
body_case s answer o head body next unsent v is p q n h count c =
    ap (take count) n ∙ body_front count 262144 s head body h (subst (λ (z : List ℕ). count ≤ length z) n c) ∙ ap (take count) (sym (whole_text s answer o head body unsent v is p q))

head_case : (s : ℕ) (answer : AnswerValue) (o : Option AnswerValue) (head next items unsent : List ℕ) → unsent_of o s ≡ unsent → o ≡ Some answer → head ≡ answer.head
    → next ≡ items → items ≡ drop s answer.head ++ take 16384 answer.body → s < length head → (count : ℕ) → count ≤ length next → take count next ≡ take count unsent
head_case s answer o head next items unsent v is p n i h count c =
    let e : next ≡ drop s answer.head ++ take 16384 answer.body = n ∙ i in
    let l : s ≤ length answer.head = omega (arith, ap length p) in
    ap (take count) e ∙ head_front count 16384 s answer.head answer.body l (subst (λ (z : List ℕ). count ≤ length z) e c) ∙ ap (take count) (sym (sym v ∙ ap (λ (z : Option AnswerValue). unsent_of z s) is))

pub returns-then-self-head-clause-sent : goal.returns-then-self-head-clause-sent
returns-then-self-head-clause-sent g c =
    let view : unsent_of c.self.inside.answer c.self.inside.sent ≡ c.args.self.now.unsent = ap (λ (z : MemberValue g.row.S.Denot). z.unsent) c.self.view_is in
    let stream : c.self.inside.stream.stream ≡ c.args.self.now.stream = ap (λ (z : MemberValue g.row.S.Denot). z.stream) c.self.view_is in
    sent_front g.S.Peer.spoke c.self.inside.stream.stream c.args.self.now.stream c.write.new.self.stream c.write.result c.next_of.result.now c.args.self.now.unsent stream
    (body_case c.self.inside.sent c.in-Some.answer c.self.inside.answer c.head-head.result.now c.body.result.now c.next_of.result.now c.args.self.now.unsent view c.in-Some.is c.head-head.ensures c.body.ensures c.next_of.ensures c.if-self-head.true)
    c.write.ensures.bound c.write.ensures.sent

pub returns-clause-sent : goal.returns-clause-sent
returns-clause-sent g c =
    let view : unsent_of c.self.inside.answer c.self.inside.sent ≡ c.args.self.now.unsent = ap (λ (z : MemberValue g.row.S.Denot). z.unsent) c.self.view_is in
    let stream : c.self.inside.stream.stream ≡ c.args.self.now.stream = ap (λ (z : MemberValue g.row.S.Denot). z.stream) c.self.view_is in
    sent_front g.S.Peer.spoke c.self.inside.stream.stream c.args.self.now.stream c.write-2.new.self.stream c.write-2.result c.as_slice.result.now c.args.self.now.unsent stream
    (head_case c.self.inside.sent c.in-Some.answer c.self.inside.answer c.head-head.result.now c.as_slice.result.now c.gather.new.gathered.items c.args.self.now.unsent view c.in-Some.is c.head-head.ensures c.as_slice.ensures.value c.in_ok-gather.ensures c.if-self-head.false)
    c.write-2.ensures.bound c.write-2.ensures.sent

pub returns-then-self-head-clause-within : goal.returns-then-self-head-clause-within
returns-then-self-head-clause-within g c =
    let view : unsent_of c.self.inside.answer c.self.inside.sent ≡ c.args.self.now.unsent = ap (λ (z : MemberValue g.row.S.Denot). z.unsent) c.self.view_is in
    sent_few c.write.result c.next_of.result.now c.args.self.now.unsent
    (body_case c.self.inside.sent c.in-Some.answer c.self.inside.answer c.head-head.result.now c.body.result.now c.next_of.result.now c.args.self.now.unsent view c.in-Some.is c.head-head.ensures c.body.ensures c.next_of.ensures c.if-self-head.true)
    c.write.ensures.bound

pub returns-clause-within : goal.returns-clause-within
returns-clause-within g c =
    let view : unsent_of c.self.inside.answer c.self.inside.sent ≡ c.args.self.now.unsent = ap (λ (z : MemberValue g.row.S.Denot). z.unsent) c.self.view_is in
    sent_few c.write-2.result c.as_slice.result.now c.args.self.now.unsent
    (head_case c.self.inside.sent c.in-Some.answer c.self.inside.answer c.head-head.result.now c.as_slice.result.now c.gather.new.gathered.items c.args.self.now.unsent view c.in-Some.is c.head-head.ensures c.as_slice.ensures.value c.in_ok-gather.ensures c.if-self-head.false)
    c.write-2.ensures.bound
