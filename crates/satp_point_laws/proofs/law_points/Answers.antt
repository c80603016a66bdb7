use Rattle.satp_point_laws.proofs.GoingLaw.{act-breaks, act-goes, append-breaks, append-goes, moves-go-on, saying-goes}
use Rattle.satp_point_laws.proofs.law_points.Goals as goal

pub returns-clause-append : goal.returns-clause-append
returns-clause-append c = append-goes

pub returns-clause-append_fails : goal.returns-clause-append_fails
returns-clause-append_fails c = append-breaks

pub returns-clause-act : goal.returns-clause-act
returns-clause-act c = act-goes

pub returns-clause-act_fails : goal.returns-clause-act_fails
returns-clause-act_fails c = act-breaks

pub returns-clause-says : goal.returns-clause-says
returns-clause-says c = saying-goes

pub returns-clause-more : goal.returns-clause-more
returns-clause-more c = moves-go-on
