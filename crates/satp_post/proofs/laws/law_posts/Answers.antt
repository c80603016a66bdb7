use Rattle.satp_post.proofs.Hearings.{answers_are_heard, hearings_go_on, last_hearing_ends}
use Rattle.satp_post.proofs.laws.law_posts.Goals as goal

pub returns : goal.returns
returns c = record { whole = answers_are_heard; on = hearings_go_on; ends = last_hearing_ends }
