mod PageRows
