use Rattle.rtm_set.proofs.list.+locate_rest.Given as goal

-- proposed from what the function passes where it calls itself
abbrev pub decreases-locate_rest : goal.decreases-locate_rest
decreases-locate_rest l = l.place
