use Rattle.voy_meta.proofs.JoinLemmas.{state_more, states_join, test_more, tests_join}
use Rattle.voy_meta.proofs.state_laws.records_join.Goals as goal

pub returns : goal.returns
returns c = record { states = states_join; tests = tests_join; state_more = state_more; test_more = test_more }
