use Rattle.cli_serve.proofs.Refusing.{of_none, on_ok}
use Rattle.cli_serve.proofs.serving.serve_over.Goals as goal

pub returns-clause-opened : goal.returns-clause-opened
returns-clause-opened g c = on_ok c.listen.result (record {
  table = c.in_ok-hub.hub.1.table;
  image = c.in_ok-hub.hub.1.data_store;
  device = c.in_ok-hub.hub.1.hash_store;
  line = c.in_ok-hub.ensures.line;
  of_data = c.in_ok-hub.ensures.data;
  of_hash = c.in_ok-hub.ensures.hash;
  shut = c.in_ok-hub.ensures.shut;
})

pub returns-clause-system : goal.returns-clause-system
returns-clause-system g c = of_none _ c.listen.result c.listen.ensures.system
