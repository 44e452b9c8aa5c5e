use Rattle.std.proofs.Common.{◌≡◌, ℕ, List, [], ◌++◌, ◌∙◌, ap, codes, refl}
use Rattle.std.specs.Fmt.{decimal}
use Rattle.http_core.specs.Reply.{reason, allow_line, connection_line, head_text}
use Rattle.http_core.proofs.head_text.HeadText.new.Goals as goal

record Is (now text : List ℕ) : Type 0 where
  is : now ≡ text

next : (before now text added more : List ℕ) → Is before text → now ≡ before ++ added → added ≡ more → Is now (text ++ more)
next before now text added more e f h = record { is = f ∙ ap (λ z. before ++ z) h ∙ ap (λ z. z ++ more) e.is }

pub returns : goal.returns
unfolding head_text
returns c =
    let s0 : Is c.new-text.result.items [] = record { is = c.new-text.ensures } in
    let s1 = next _ c.push.new.text.items _ (codes "HTTP/1.1 ") (codes "HTTP/1.1 ") s0 c.push.ensures.items refl in
    let s2 = next _ c.push-2.new.text.items _ c.as_bytes.result.now (decimal c.args.status) s1 c.push-2.ensures.items (c.as_bytes.ensures.value ∙ c.format.ensures.text) in
    let s3 = next _ c.push-3.new.text.items _ (codes " ") (codes " ") s2 c.push-3.ensures.items refl in
    let s4 = next _ c.push-4.new.text.items _ c.reason_of.result.now (reason c.args.status) s3 c.push-4.ensures.items c.reason_of.ensures.text in
    let s5 = next _ c.push-5.new.text.items _ (codes "\r\nContent-Length: ") (codes "\r\nContent-Length: ") s4 c.push-5.ensures.items refl in
    let s6 = next _ c.push-6.new.text.items _ c.as_bytes-2.result.now (decimal c.args.length) s5 c.push-6.ensures.items (c.as_bytes-2.ensures.value ∙ c.format-2.ensures.text) in
    let s7 = next _ c.push-7.new.text.items _ (codes "\r\n") (codes "\r\n") s6 c.push-7.ensures.items refl in
    let s8 = next _ c.push-8.new.text.items _ c.allow_of.result.now (allow_line c.args.status) s7 c.push-8.ensures.items c.allow_of.ensures.text in
    let s9 = next _ c.push-9.new.text.items _ c.connection_of.result.now (connection_line c.args.close) s8 c.push-9.ensures.items c.connection_of.ensures.text in
    let s10 = next _ c.push-10.new.text.items _ (codes "\r\n") (codes "\r\n") s9 c.push-10.ensures.items refl in
    s10.is
