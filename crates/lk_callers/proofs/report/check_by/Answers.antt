use Rattle.std.proofs.Common.{rules, ◌≡◌, List, length, sym, subst, Ok, Err, Result}
use Rattle.std.specs.Prelude.{IfOk}
use Rattle.lk_session.specs.declared.reply.Reply.{Reply}
use Rattle.lk_session.specs.Texts.{units_of}
use Rattle.lk_callers.specs.declared.turns.Turns.{Turns}
use Rattle.lk_callers.specs.Owned.{bytes_in}
use Rattle.lk_callers.specs.Answered.{AreRight, AreWithin}
use Rattle.lk_callers.specs.Reports.{IsSessionReport}
use Rattle.lk_callers.proofs.Wholes.{units_counted}
use Rattle.lk_callers.proofs.Sessions.{all_gathered, passes_are, own_below, too_many, no_more, no_fewer, rights, fits, told}
use Rattle.lk_callers.proofs.report.check_by.Goals as goal

pub own_list-requires-clause-passes : goal.own_list-requires-clause-passes
own_list-requires-clause-passes g c =
    let t : Turns = record { callers = c.args.callers; passes = c.len.result } in
    let budget = g.C.Checks.budget_of c.args.checks.now in
    let count : length c.in_ok-called.called.items ≡ c.len.result = search rules in
    let all = all_gathered g.T.Reads.stated c.args.texts.now t budget c.in_ok-called.called.items c.in_ok-pass.field-0 c.in_ok-pass.ensures c.in_ok-called.ensures.each count in
    passes_are g.T.Reads.stated (bytes_in c.args.texts.now) t budget c.in_ok-pass.field-0 all

pub own_list-requires-clause-own : goal.own_list-requires-clause-own
own_list-requires-clause-own g c =
    let t : Turns = record { callers = c.args.callers; passes = c.len.result } in
    let budget = g.C.Checks.budget_of c.args.checks.now in
    let count : length c.in_ok-called.called.items ≡ c.len.result = search rules in
    let all = all_gathered g.T.Reads.stated c.args.texts.now t budget c.in_ok-called.called.items c.in_ok-pass.field-0 c.in_ok-pass.ensures c.in_ok-called.ensures.each count in
    own_below g.T.Reads.stated (bytes_in c.args.texts.now) t budget c.in_ok-pass.field-0 all

pub tell_own-requires-clause-fit : goal.tell_own-requires-clause-fit
tell_own-requires-clause-fit g c =
    let t : Turns = record { callers = c.args.callers; passes = c.len.result } in
    let budget = g.C.Checks.budget_of c.args.checks.now in
    let count : length c.in_ok-called.called.items ≡ c.len.result = search rules in
    let all = all_gathered g.T.Reads.stated c.args.texts.now t budget c.in_ok-called.called.items c.in_ok-pass.field-0 c.in_ok-pass.ensures c.in_ok-called.ensures.each count in
    let own = c.in_ok-marks.ensures in
    subst (λ (rs : List Reply). AreWithin (length (units_of g.T.Reads.stated c.own_list.new.pass.known.seen)) rs) (sym c.deref-2.ensures.value)
    (fits g.T.Reads.stated (bytes_in c.args.texts.now) t budget c.in_ok-pass.field-0 all c.own_list.new.pass.known own.order own.mine own.whole (c.requires.callers, search rules))

pub returns-then-full-clause-full : goal.returns-then-full-clause-full
returns-then-full-clause-full g c = λ same.
    let t : Turns = record { callers = c.args.callers; passes = c.len.result } in
    let budget = g.C.Checks.budget_of c.args.checks.now in
    let count : length c.in_ok-called.called.items ≡ c.len.result = search rules in
    let all = all_gathered g.T.Reads.stated c.args.texts.now t budget c.in_ok-called.called.items c.in_ok-pass.field-0 c.in_ok-pass.ensures c.in_ok-called.ensures.each count in
    let own = c.in_ok-marks.ensures in
    let w = c.own_list.new.pass.known in
    let stated = g.T.Reads.stated in
    too_many stated (bytes_in c.args.texts.now) t budget c.in_ok-pass.field-0 all w own.order own.mine own.whole (c.requires.callers, search rules) c.if-full.true

pub returns-then-units-gt-MOST_UNITS-clause-full : goal.returns-then-units-gt-MOST_UNITS-clause-full
returns-then-units-gt-MOST_UNITS-clause-full g c = λ same.
    let t : Turns = record { callers = c.args.callers; passes = c.len.result } in
    let budget = g.C.Checks.budget_of c.args.checks.now in
    let count : length c.in_ok-called.called.items ≡ c.len.result = search rules in
    let all = all_gathered g.T.Reads.stated c.args.texts.now t budget c.in_ok-called.called.items c.in_ok-pass.field-0 c.in_ok-pass.ensures c.in_ok-called.ensures.each count in
    let own = c.in_ok-marks.ensures in
    let w = c.own_list.new.pass.known in
    let stated = g.T.Reads.stated in
    let many = units_counted stated c.library.result.now c.units.result.now c.own_list.new.pass.read w.seen c.units.ensures.value c.library.ensures.units own.read in
    let fewer = no_more stated (bytes_in c.args.texts.now) t budget c.in_ok-pass.field-0 all w own.order own.mine own.whole (c.requires.callers, search rules) in
    let more = c.if-units-gt-MOST_UNITS.true in
    search rules

pub returns-clause-few : goal.returns-clause-few
returns-clause-few g c =
    let t : Turns = record { callers = c.args.callers; passes = c.len.result } in
    let budget = g.C.Checks.budget_of c.args.checks.now in
    let count : length c.in_ok-called.called.items ≡ c.len.result = search rules in
    let all = all_gathered g.T.Reads.stated c.args.texts.now t budget c.in_ok-called.called.items c.in_ok-pass.field-0 c.in_ok-pass.ensures c.in_ok-called.ensures.each count in
    let own = c.in_ok-marks.ensures in
    let w = c.own_list.new.pass.known in
    let stated = g.T.Reads.stated in
    let many = units_counted stated c.library.result.now c.units.result.now c.own_list.new.pass.read w.seen c.units.ensures.value c.library.ensures.units own.read in
    let fewer = no_fewer stated (bytes_in c.args.texts.now) t budget c.in_ok-pass.field-0 all w own.order own.mine own.whole (c.requires.callers, search rules) c.if-full.false in
    let most = c.if-units-gt-MOST_UNITS.false in
    search rules

pub returns-clause-ok : goal.returns-clause-ok
returns-clause-ok g c =
    let t : Turns = record { callers = c.args.callers; passes = c.len.result } in
    let budget = g.C.Checks.budget_of c.args.checks.now in
    let count : length c.in_ok-called.called.items ≡ c.len.result = search rules in
    let all = all_gathered g.T.Reads.stated c.args.texts.now t budget c.in_ok-called.called.items c.in_ok-pass.field-0 c.in_ok-pass.ensures c.in_ok-called.ensures.each count in
    let own = c.in_ok-marks.ensures in
    let w = c.own_list.new.pass.known in
    let stated = g.T.Reads.stated in
    let right = subst (λ (rs : List Reply). AreRight stated budget w.seen rs) (sym c.deref-2.ensures.value) (rights stated (bytes_in c.args.texts.now) t budget c.in_ok-pass.field-0 all w own.order own.mine own.whole (c.requires.callers, search rules)) in
    told stated (bytes_in c.args.texts.now) t budget c.in_ok-pass.field-0 all w own.order own.mine own.whole (c.requires.callers, search rules) c.if-full.false c.in_ok-report.report (c.in_ok-report.ensures budget right)
