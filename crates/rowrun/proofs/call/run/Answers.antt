use Rattle.std.proofs.Common.{ap}
use Rattle.rowtext.proofs.Exact.{refused, too_long, exact, complete}
use Rattle.rowtext.proofs.Statuses.{by_status}
use Rattle.std.specs.Prelude.{map, string_bytes}
use Rattle.rowrun.proofs.Answered.{done_written, fault_written, generates, steady_generates, was_called}
use Rattle.rowrun.proofs.Asked.{gen_not_input, not_input, of_others, of_run}
use Rattle.rowrun.proofs.call.run.Goals as goal

pub returns-clause-usage : goal.returns-clause-usage
returns-clause-usage g c = (by_status c.conduct.ensures.ends).is_usage

pub returns-clause-form : goal.returns-clause-form
returns-clause-form g c = (by_status c.conduct.ensures.ends).is_form

pub returns-clause-unread : goal.returns-clause-unread
returns-clause-unread g c = (by_status c.conduct.ensures.ends).is_unread

pub returns-clause-long : goal.returns-clause-long
returns-clause-long g c = (by_status c.conduct.ensures.ends).is_long

pub returns-clause-unbuilt : goal.returns-clause-unbuilt
returns-clause-unbuilt g c = (by_status c.conduct.ensures.ends).is_unbuilt

pub returns-clause-refused : goal.returns-clause-refused
returns-clause-refused g c = λ unknown none steady. refused c.conduct.ensures.ends (of_others (map string_bytes c.args.words.now) unknown none) steady

pub returns-clause-too_long : goal.returns-clause-too_long
returns-clause-too_long g c = λ bytes known told many steady. too_long c.conduct.ensures.ends bytes (of_run (map string_bytes c.args.words.now) known) told many steady

pub returns-clause-exact : goal.returns-clause-exact
returns-clause-exact g c = λ bytes known told all other steady. exact c.conduct.ensures.ends bytes (of_run (map string_bytes c.args.words.now) known) told all other steady

pub returns-clause-complete : goal.returns-clause-complete
returns-clause-complete g c = λ bytes known told source sink. complete c.conduct.ensures.ends bytes (of_run (map string_bytes c.args.words.now) known) told source sink

pub returns-clause-called : goal.returns-clause-called
returns-clause-called g c = was_called (map string_bytes c.args.words.now) c.conduct.ensures.ends

pub returns-clause-done : goal.returns-clause-done
returns-clause-done g c = done_written (map string_bytes c.args.words.now) c.conduct.ensures.ends

pub returns-clause-fault : goal.returns-clause-fault
returns-clause-fault g c = fault_written (map string_bytes c.args.words.now) c.conduct.ensures.ends

pub returns-clause-generates : goal.returns-clause-generates
returns-clause-generates g c = λ n gen. generates (map string_bytes c.args.words.now) c.conduct.ensures.ends
    (λ kept. ap g.S.Source.left (kept (gen_not_input (map string_bytes c.args.words.now) n gen))) n gen

pub returns-clause-generated : goal.returns-clause-generated
returns-clause-generated g c = λ n gen steady. steady_generates n (generates (map string_bytes c.args.words.now) c.conduct.ensures.ends
    (λ kept. ap g.S.Source.left (kept (gen_not_input (map string_bytes c.args.words.now) n gen))) n gen) steady

pub returns-clause-kept : goal.returns-clause-kept
returns-clause-kept g c = λ other. c.conduct.ensures.kept (not_input (map string_bytes c.args.words.now) other)

pub returns-clause-memory : goal.returns-clause-memory
returns-clause-memory g c = λ four. ((by_status c.conduct.ensures.ends).is_memory four).1
