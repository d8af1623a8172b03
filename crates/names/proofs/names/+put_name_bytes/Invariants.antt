use Rattle.names.proofs.names.+put_name_bytes.Given as goal

abbrev pub decreases-put_name_bytes : goal.decreases-put_name_bytes
decreases-put_name_bytes l = l.r
