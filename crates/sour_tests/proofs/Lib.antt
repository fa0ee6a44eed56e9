mod ExitLaws
