use Rattle.std.proofs.Common.{◌≡◌, length, sym, ◌∙◌, Ok}
use Rattle.cdb.proofs.Rooms.{received_room}
use Rattle.unit.specs.Courses.{Course, phase_after}
use Rattle.unit.specs.Commanded.{course_from, Truthful}
use Rattle.unit.specs.Works.{Works}
use Rattle.unit.proofs.Commanded.{phase_works, remembers_on}
use Rattle.unit.proofs.Calls.{with_both, calmed}
use Rattle.unit.proofs.attach.Unit.command.Goals as goal

pub returns : goal.returns
returns g c =
    let u = c.args.self.now in
    let w = c.obey.new.self in
    let out = c.args.out.now in
    let b = c.args.into.now in
    let r = Ok c.obey.result in
    let s = g.D.Drive.meaning u.drive in
    let q = c.in_ok-request.request in
    let taken = sym c.receive.ensures ∙ c.in_ok-request.was in
    let room = received_room c.args.cdb.now q (length out) (length b) taken c.if-out-request.false c.if-into-request.false in
    let whole : Course = course_from g.D.Drive.meaning u c.args.cdb.now out (length b) in
    let e = with_both u.phase s.most c.args.cdb.now out (length b) q taken c.if-out-request.false c.if-into-request.false in
    let phase : w.phase ≡ phase_after whole u.phase = rw e (c.obey.ensures.phase ∙ sym (calmed u.phase s.most out q.command)) in
    let works : Truthful g.D.Drive.meaning u → Works whole s b (g.D.Drive.meaning w.drive) c.obey.new.into r =
    λ h. rw e (phase_works g.D.Drive.does g.D.Drive.meaning g.met.D.Drive.formed g.met.D.Drive.agrees u.drive w.drive out b c.obey.new.into r u.phase q.command room h c.obey.ensures.came) in
    record {
      came = rw e c.obey.ensures.came;
      works = works;
      remembers = λ h. remembers_on g.D.Drive.does g.D.Drive.meaning g.met.D.Drive.formed g.met.D.Drive.agrees u.drive w.drive out b c.obey.new.into r whole u.phase w.phase phase (works h) h;
      phase = phase;
    }
