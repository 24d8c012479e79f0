mod Shortest
