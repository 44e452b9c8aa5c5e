use Rattle.remote.specs.Line.{get, line_value}
use Rattle.remote.specs.Table.{HasAnswer}
use Rattle.remote.proofs.Lines.{explains_unkept, refuses_unkept}
use Rattle.remote.proofs.asking.look_up.Goals as goal

-- what was answered isn't kept
pub returns-in-Err-keep_answer-clause-looked : goal.returns-in-Err-keep_answer-clause-looked
returns-in-Err-keep_answer-clause-looked g c =
    let flow = g.S.Stream.flow in
    let old = line_value flow c.args.line.now in
    let mid = line_value flow c.get.new.self in
    let new = line_value flow c.starve-in-Err-keep_answer.new.self in
    let asked = get c.args.area c.args.digest.now.hash in
    let gets = c.in_ok-answer.ensures.asked in
    let none : HasAnswer c.args.table.now c.args.digest.now → ⊥ = λ has. (let yes = c.has.ensures.1 has in let no = c.if-has.false in cc) in
    record {
      silent = λ has. absurd (none has);
      kept = λ has. absurd (none has);
      unfailed = λ has. absurd (none has);
      absent = λ has. absurd (none has);
      same = λ has. absurd (none has);
      answered = λ not. tt;
      refused = refuses_unkept old mid new asked gets.reply c.starve-in-Err-keep_answer.result gets.asks c.starve-in-Err-keep_answer.ensures;
      starved = λ not. explains_unkept old mid new asked gets.reply c.starve-in-Err-keep_answer.result gets.asks c.starve-in-Err-keep_answer.ensures;
      held = tt;
      unheld = c.in-Err-keep_answer.ensures.err;
      others = λ e other. c.in-Err-keep_answer.ensures.err.same e;
    }
