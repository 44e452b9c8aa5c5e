use Rattle.std.proofs.Common.{◌≡◌, ◌<◌, ℕ, List, true, false, not, ◌&&◌, nat_lt, bytes_eq, Option, Some, option_map, sym, ap, ◌∙◌, rules, arith}
use Rattle.std.specs.Map.{lookup}
use Rattle.std.proofs.lemmas.Bool.Decides.{nat_tests}
use Rattle.eviction.specs.Kept.{Held}
use Rattle.eviction.specs.Pinning.{pins_of}
use Rattle.action_cache.specs.Reading.{by_messages}
use Rattle.action_cache.specs.Machine.{CacheState, under, differs_pinned}
use Rattle.action_cache.specs.State.{state_of}
use Rattle.action_cache.proofs.Unpinning.{mark, under-marks, find_entry, pins_found}
use Rattle.action_cache.proofs.Pinning.{no_entry}
use Rattle.action_cache.proofs.cache.ActionCache.differs.Goals as goal

stands : (w : CacheState) (limit rl : ℕ) (B R : List (List ℕ × Held)) (h : List ℕ) (o : Option Held) → state_of limit rl B R ≡ w → lookup (bytes_eq h) R ≡ o → under h w.results ≡ option_map mark o
stands w limit rl B R h o view e = ap (λ (z : CacheState). under h z.results) (sym view) ∙ under-marks h R ∙ ap (option_map mark) e

-- the machine's answer, by what was found and by its count
told : (w : CacheState) (limit rl : ℕ) (B R : List (List ℕ × Held)) (h b l : List ℕ) (n : ℕ) → state_of limit rl B R ≡ w → Some l ≡ option_map (λ (x : Held). x.bytes) (lookup (bytes_eq h) R) → n ≡ pins_of bytes_eq R h
    → (nat_lt 0 n && not (bytes_eq l b)) ≡ differs_pinned by_messages w b (under h w.results)
told w limit rl B R h b l n view e counts =
    let f = find_entry (lookup (bytes_eq h) R) l e in
    (λ i. nat_lt 0 (pins_found R h f.0 n f.1 counts i) && not (bytes_eq (sym f.2 i) b)) ∙ sym (ap (differs_pinned by_messages w b) (stands w limit rl B R h (Some f.0) view f.1))

pub returns-then-pins-gt0 : goal.returns-then-pins-gt0
returns-then-pins-gt0 g c =
    let i = c.self.inside in
    let unequal : c.ne.result ≡ not (bytes_eq c.in-Some.held.now c.args.bytes.now) = search (rules, c.ne.ensures) in
    let some : 0 < c.pins.result = c.if-pins-gt0.true in
    let above : nat_lt 0 c.pins.result ≡ true = grind (arith, nat_tests) in
    unequal ∙ (λ j. sym above j && not (bytes_eq c.in-Some.held.now c.args.bytes.now))
    ∙ told c.args.self.now i.blobs.limit i.results.limit i.blobs.entries i.results.entries c.args.hash.now c.args.bytes.now c.in-Some.held.now c.pins.result c.self.view_is c.in-Some.ensures c.pins.ensures

pub returns-else-pins-gt0 : goal.returns-else-pins-gt0
returns-else-pins-gt0 g c =
    let i = c.self.inside in
    let none = c.if-pins-gt0.false in
    let zero : nat_lt 0 c.pins.result ≡ false = grind (arith, nat_tests) in
    zero ∙ (λ j. sym zero j && not (bytes_eq c.in-Some.held.now c.args.bytes.now))
    ∙ told c.args.self.now i.blobs.limit i.results.limit i.blobs.entries i.results.entries c.args.hash.now c.args.bytes.now c.in-Some.held.now c.pins.result c.self.view_is c.in-Some.ensures c.pins.ensures

pub returns-in-None : goal.returns-in-None
returns-in-None g c =
    let i = c.self.inside in
    let R = i.results.entries in
    sym (ap (differs_pinned by_messages c.args.self.now c.args.bytes.now) (stands c.args.self.now i.blobs.limit i.results.limit i.blobs.entries R c.args.hash.now _ c.self.view_is (no_entry (lookup (bytes_eq c.args.hash.now) R) c.in-None.ensures)))
