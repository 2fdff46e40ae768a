-- How a prepared change lies in memory.
use Rattle.qx_ptree.specs.declared.prepared.Prepared.TheInside.{Inside}
use Rattle.qx_ptree.specs.WorkState.{Preparation}

-- the change that the fields stand for
abbrev pub prepared_in : Inside → Preparation
prepared_in a = record { node = a.node; change = a.change; root = a.root; work = a.work }
