use Rattle.std.proofs.Common.{List, ℕ, Option}
use Rattle.std.specs.Prelude.{◌↔◌, ◌⊎◌, IfErr, IfOk, IsTrue, Result, Ok, Err}
use Rattle.std.proofs.lemmas.Result.{IfOk-weaker}
use Rattle.clap.specs.Words.{Row, found_of, rows_of}
use Rattle.text_verifier.specs.Texts.{Question}
use Rattle.verifier.specs.Verdict.{IsYes}
use Rattle.commands.specs.Ended.{is_done}
use Rattle.commands.specs.Memory.{AnswersRight, AsksFiles, Files, PrintsFiles, PrintsVerdict, files_of, replies_of, sees_world}
use Rattle.commands.specs.Refusal.{FailsToJudge, IsPrintFault}
use Rattle.commands.specs.Words.{AllValid, place_words}
use Rattle.commands.specs.declared.ended.Ended.{Ended}
use Rattle.commands.specs.declared.error.CommandError.{CommandError}
use Rattle.commands.proofs.InMemory.{answers_right, judges_files, refused_for}
use Rattle.commands.proofs.OneQuestion.{TextLaws}
use Rattle.commands.proofs.SmallExample.{asked, asks_example, prints_no, prints_yes}
use Rattle.commands.proofs.memory_world.verify_in_memory.Goals as goal

pub returns-clause-printed : goal.returns-clause-printed
returns-clause-printed g c = c.print_asked.ensures.printed

pub returns-clause-files : goal.returns-clause-files
returns-clause-files g c names =
    let files = files_of c.args.world.now in
    let replies = replies_of c.args.world.now in
    let options = rows_of (found_of c.args.matches.now) in
    let old = g.O.Write.contents c.args.out.now in
    let new = g.O.Write.contents c.print_asked.new.out in
    IfOk-weaker c.print_asked.result
    (λ ended. (prints : PrintsVerdict (sees_world files replies) options old new) × (IsTrue (is_done ended) ↔ IsYes prints.verdict))
    (λ ended. (prints : PrintsFiles files options old new) × (IsTrue (is_done ended) ↔ IsYes prints.verdict))
    (λ ended h. (record { verdict = h.0.verdict; judged = judges_files files replies options names h.0.verdict h.0.judged; printed = h.0.printed }, h.1)) c.print_asked.ensures.printed

answered : (laws : TextLaws) (files replies : Files) (options : List Row) (q : Question) (old new : Option (List ℕ)) (result : Result Ended CommandError) → AllValid (place_words options) → AsksFiles files options q
    → IfOk result (λ ended. (prints : PrintsVerdict (sees_world files replies) options old new) × (IsTrue (is_done ended) ↔ IsYes prints.verdict)) → IfErr result (λ e. FailsToJudge (sees_world files replies) options e ⊎ IsPrintFault e)
    → AnswersRight files options q old new result
answered laws files replies options q old new (Ok ended) words asks printed refused = answers_right laws files replies options q asks old new ended printed
answered laws files replies options q old new (Err e) words asks printed refused = refused_for laws files replies options q asks words e refused

pub returns-clause-right : goal.returns-clause-right
returns-clause-right g c question words asks =
    answered (record { plan_one = c.spells_one_plan.ensures; no_fault = c.faults_are_single_valued.ensures.none; record_one = c.spells_one_record.ensures; no_record_fault = c.record_faults_are_single_valued.ensures.none }) (files_of c.args.world.now) (replies_of c.args.world.now) (rows_of (found_of c.args.matches.now)) question (g.O.Write.contents c.args.out.now) (g.O.Write.contents c.print_asked.new.out)
    c.print_asked.result words asks c.print_asked.ensures.printed c.print_asked.ensures.refused

pub returns-clause-example : goal.returns-clause-example
returns-clause-example g c h =
    let files = files_of c.args.world.now in
    let options = rows_of (found_of c.args.matches.now) in
    let old = g.O.Write.contents c.args.out.now in
    let new = g.O.Write.contents c.print_asked.new.out in
    prints_yes files options old new c.print_asked.result h
    (answered (record { plan_one = c.spells_one_plan.ensures; no_fault = c.faults_are_single_valued.ensures.none; record_one = c.spells_one_record.ensures; no_record_fault = c.record_faults_are_single_valued.ensures.none }) files (replies_of c.args.world.now) options asked old new c.print_asked.result h.asks.words (asks_example files options h.asks) c.print_asked.ensures.printed c.print_asked.ensures.refused)

pub returns-clause-flawed : goal.returns-clause-flawed
returns-clause-flawed g c h =
    let files = files_of c.args.world.now in
    let replies = replies_of c.args.world.now in
    let options = rows_of (found_of c.args.matches.now) in
    let old = g.O.Write.contents c.args.out.now in
    let new = g.O.Write.contents c.print_asked.new.out in
    prints_no files options h (record { plan_one = c.spells_one_plan.ensures; no_fault = c.faults_are_single_valued.ensures.none; record_one = c.spells_one_record.ensures; no_record_fault = c.record_faults_are_single_valued.ensures.none }) replies old new c.print_asked.result c.print_asked.ensures.printed
    (answered (record { plan_one = c.spells_one_plan.ensures; no_fault = c.faults_are_single_valued.ensures.none; record_one = c.spells_one_record.ensures; no_record_fault = c.record_faults_are_single_valued.ensures.none }) files replies options asked old new c.print_asked.result h.asks.words (asks_example files options h.asks) c.print_asked.ensures.printed c.print_asked.ensures.refused)
