mod TestEnds
