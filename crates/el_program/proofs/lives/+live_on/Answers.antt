use Rattle.el_words.specs.Words.{texts}
use Rattle.el_loop.specs.Counts.{devices}
use Rattle.el_program.specs.Calls.{call}
use Rattle.el_program.proofs.LifeLemmas.{found, lived_more, lived_none}
use Rattle.el_program.proofs.lives.+live_on.Goals as goal

pub returns-in_default : goal.returns-in_default
returns-in_default g t c = record {
  lived = λ magic was flight told serves left.
      lived_none _ _ _ _ c.args.disk was flight (texts c.args.words.now) c.args.turns c.args.archives.now
      c.args.relays.now c.args.links.now c.args.ends.now c.in_default.ensures.cases c.requires.relays c.requires.links c.requires.ends;
}

pub returns : goal.returns
returns g t c = record {
  lived = λ magic was flight told serves left.
      let life = call (texts c.args.words.now) c.args.turns
      (devices c.next-disk.result c.in-Some.archive.now c.in-Some-split_first_mut.relay.now c.in-Some-split_first_mut-2.link.now)
      (devices c.serve-status.result.1 c.serve-status.new.archive c.serve-status.new.relay c.serve-status.new.link)
      c.serve-status.result.0 in
      let next = c.next-disk.ensures.left told in
      let f = found g.D.Disk g.A.Archive g.Y.Relay g.K.Link magic c.args.disk was flight life told left next serves
      c.serve-status.ensures.ends in
      let then = c.live_on.ensures.lived magic f.end.acked f.end.in_flight told serves f.end.leaves in
      rw (c.in-Some.ensures.cases.0, c.in-Some-split_first_mut.ensures.cases.0, c.in-Some-split_first_mut-2.ensures.cases.0)
      (lived_more g.D.Disk g.A.Archive g.Y.Relay g.K.Link magic c.args.disk was flight life c.in-Some.archives.now
      c.live_on.new.archives c.in-Some-split_first_mut.relays.now c.live_on.new.relays c.in-Some-split_first_mut-2.links.now c.live_on.new.links c.live_on.new.ends
      c.live_on.result f next
      (c.serve-status.ensures.others told) then);
}
