-- `session::play_all` meets its contract: the booths are opened, played and closed, and what is answered is counted. Assumes nothing.
use Rattle.session.proofs.Played.{ready, ended, answer_is, wall_is, own_is}
use Rattle.session.proofs.play_all.Goals as goal

pub run-stage-requires : goal.run-stage-requires
run-stage-requires c =
    let o = c.open_all-start in
    ready c.args.table c.args.log.now c.args.wall.now c.args.own.now c.args.h c.requires o.result o.ensures

pub close-booths-requires : goal.close-booths-requires
close-booths-requires c =
    let st = c.args in
    let pre = c.requires in
    let o = c.open_all-start in
    let run = c.run-stage in
    ended st.table st.log.now st.wall.now st.own.now st.h pre o.result o.ensures run.result run.new.wall run.new.own
    (run.ensures (ready st.table st.log.now st.wall.now st.own.now st.h pre o.result o.ensures)) run.auto.own

pub returns : goal.returns
returns c =
    let st = c.args in
    let pre = c.requires in
    let o = c.open_all-start in
    let run = c.run-stage in
    let x = c.close-booths in
    let clocks = c.clocks_of-clocks in
    let through = run.ensures (ready st.table st.log.now st.wall.now st.own.now st.h pre o.result o.ensures) in
    let all = x.ensures (ended st.table st.log.now st.wall.now st.own.now st.h pre o.result o.ensures run.result run.new.wall run.new.own through run.auto.own) in record {
      answer = answer_is st.table st.log.now st.wall.now st.own.now st.h pre o.result o.ensures run.result run.new.wall run.new.own through run.auto.own
          x.result x.new.own clocks.result all clocks.ensures;
      wall = wall_is st.table st.log.now st.wall.now st.own.now st.h pre o.result o.ensures run.result run.new.wall run.new.own through run.auto.own
          x.result x.new.own clocks.result all clocks.ensures;
      own = own_is st.table st.log.now st.wall.now st.own.now st.h pre o.result o.ensures run.result run.new.wall run.new.own through run.auto.own
          x.result x.new.own clocks.result all clocks.ensures;
    }
