-- The model's laws, of calls over a slice of children: as many are given as are named.
use Rattle.std.proofs.Common.{ℕ, ◌≤◌, min, List, [], ◌∷◌, length, arith}
use Rattle.model.specs.Steps.{makes, rebuilds}
use Rattle.model.proofs.Causes.{making_refuses_exactly, rebuilding_refuses_exactly}
use Rattle.model.proofs.Granting.{made_as_asked}
use Rattle.model.proofs.Regranting.{rebuilt_over_others}
use Rattle.model.proofs.Stepping.{steps_keep_sound, nodes_stay}
use Rattle.model.proofs.UnboundGranting.{unbound_made_as_asked, unbound_rebuilt_over_others}
use Rattle.model.proofs.UnboundStepping.{unbound_steps_keep_sound, unbound_nodes_stay}
use Rattle.model.proofs.UnboundStepping.{unbound_refusals_change_nothing}
use Rattle.arena.specs.LawsOfCalls.{CallsMake, CallsRebuild, CallsMakeUnbound, CallsRebuildUnbound}

-- a slice has all the children that it names
all_given : (cs : List ℕ) → min (length cs) 8 ≤ length cs
all_given cs = omega arith

pub calls_make : CallsMake
calls_make m s sound w cs =
    let given = all_given cs in
    let step = makes w cs (length cs) in
    record {
      granted = λ k e. made_as_asked m s sound w cs (length cs) k given e;
      refused = λ r. making_refuses_exactly m s sound w cs (length cs) given r;
      sound = steps_keep_sound m s sound (step ∷ []) (given, tt);
      stay = λ k x e. nodes_stay m s sound (step ∷ []) (given, tt) k x e;
    }

pub calls_rebuild : CallsRebuild
calls_rebuild m s sound old cs =
    let given = all_given cs in
    let step = rebuilds old cs (length cs) in
    record {
      granted = λ k e. rebuilt_over_others m s sound old cs (length cs) k given e;
      refused = λ r. rebuilding_refuses_exactly m s sound old cs (length cs) given r;
      sound = steps_keep_sound m s sound (step ∷ []) (given, tt);
      stay = λ k x e. nodes_stay m s sound (step ∷ []) (given, tt) k x e;
    }

pub calls_make_unbound : CallsMakeUnbound
calls_make_unbound u sound w cs =
    let given = all_given cs in
    let step = makes w cs (length cs) in
    record {
      granted = λ k e. unbound_made_as_asked u sound w cs (length cs) k given e;
      refused = λ r e. unbound_refusals_change_nothing step u r e;
      sound = unbound_steps_keep_sound u sound (step ∷ []) (given, tt);
      stay = λ k x e. unbound_nodes_stay u sound (step ∷ []) (given, tt) k x e;
    }

pub calls_rebuild_unbound : CallsRebuildUnbound
calls_rebuild_unbound u sound old cs =
    let given = all_given cs in
    let step = rebuilds old cs (length cs) in
    record {
      granted = λ k e. unbound_rebuilt_over_others u sound old cs (length cs) k given e;
      refused = λ r e. unbound_refusals_change_nothing step u r e;
      sound = unbound_steps_keep_sound u sound (step ∷ []) (given, tt);
      stay = λ k x e. unbound_nodes_stay u sound (step ∷ []) (given, tt) k x e;
    }
